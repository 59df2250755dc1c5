use Rattle.std.proofs.Common.{rules}
use Rattle.lublock.proofs.Standing.{still_same, still_more}
use Rattle.lublock.proofs.board.Board.steps.Goals as goal

pub loop-step-init : goal.loop-step-init
loop-step-init c = record { stands = still_same c.args.flat.now c.args.inputs.now c.args.t c.args.len c.args.self.now; flows = search rules }

pub loop-step-preserved : goal.loop-step-preserved
loop-step-preserved c = record { stands = still_more c.args.flat.now c.args.inputs.now c.args.t c.args.len c.args.self.now c.loop-step.self c.step.new.self c.loop-step.invariant.stands c.step.ensures.stands; flows = search rules }

pub returns-then-step-clause-stands : goal.returns-then-step-clause-stands
returns-then-step-clause-stands c = still_more c.args.flat.now c.args.inputs.now c.args.t c.args.len c.args.self.now c.loop-step.self c.step.new.self c.loop-step.invariant.stands c.step.ensures.stands
