use Rattle.std.proofs.Common.{rules, ℕ}
use Rattle.luflow.specs.Program.{InputsView}
use Rattle.lublock.proofs.Standing.{still_more}
use Rattle.lublock.proofs.board.Board.cycle.Goals as goal

pub loop-cycle_clock-init : goal.loop-cycle_clock-init
loop-cycle_clock-init c = record { stands = c.ticks_of.ensures.stands; flows = search rules }

pub loop-cycle_clock-preserved : goal.loop-cycle_clock-preserved
loop-cycle_clock-preserved c =
    let first = λ (inputs : InputsView) (t : ℕ). still_more c.args.flat.now inputs t c.args.len c.args.self.now c.loop-cycle_clock.self c.suppose_all.new.self (c.loop-cycle_clock.invariant.stands inputs t) (c.suppose_all.ensures.stands c.args.flat.now inputs t c.args.len) in
    record {
      stands = λ inputs t. still_more c.args.flat.now inputs t c.args.len c.args.self.now c.suppose_all.new.self c.suppose_twins.new.self (first inputs t) (c.suppose_twins.ensures.stands c.args.flat.now inputs t c.args.len);
      flows = search rules;
    }

pub returns-then-suppose_all-clause-stands : goal.returns-then-suppose_all-clause-stands
returns-then-suppose_all-clause-stands c = λ inputs t. still_more c.args.flat.now inputs t c.args.len c.args.self.now c.loop-cycle_clock.self c.suppose_all.new.self (c.loop-cycle_clock.invariant.stands inputs t) (c.suppose_all.ensures.stands c.args.flat.now inputs t c.args.len)

pub returns-then-suppose_twins-clause-stands : goal.returns-then-suppose_twins-clause-stands
returns-then-suppose_twins-clause-stands c =
    let first = λ (inputs : InputsView) (t : ℕ). still_more c.args.flat.now inputs t c.args.len c.args.self.now c.loop-cycle_clock.self c.suppose_all.new.self (c.loop-cycle_clock.invariant.stands inputs t) (c.suppose_all.ensures.stands c.args.flat.now inputs t c.args.len) in
    λ inputs t. still_more c.args.flat.now inputs t c.args.len c.args.self.now c.suppose_all.new.self c.suppose_twins.new.self (first inputs t) (c.suppose_twins.ensures.stands c.args.flat.now inputs t c.args.len)
