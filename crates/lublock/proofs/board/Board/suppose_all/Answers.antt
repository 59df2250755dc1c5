use Rattle.std.proofs.Common.{rules}
use Rattle.lublock.proofs.Standing.{still_same, still_more}
use Rattle.lublock.proofs.board.Board.suppose_all.Goals as goal

pub loop-cycle_pre-init : goal.loop-cycle_pre-init
loop-cycle_pre-init c = record { stands = λ flat inputs t len. still_same flat inputs t len c.args.self.now; flows = search rules }

pub loop-cycle_pre-preserved : goal.loop-cycle_pre-preserved
loop-cycle_pre-preserved c = record {
  stands = λ flat inputs t len. still_more flat inputs t len c.args.self.now c.loop-cycle_pre.self c.suppose.new.self (c.loop-cycle_pre.invariant.stands flat inputs t len) (c.suppose.ensures.stands flat inputs t len);
  flows = search rules;
}

pub returns-then-suppose-clause-stands : goal.returns-then-suppose-clause-stands
returns-then-suppose-clause-stands c = λ flat inputs t len. still_more flat inputs t len c.args.self.now c.loop-cycle_pre.self c.suppose.new.self (c.loop-cycle_pre.invariant.stands flat inputs t len) (c.suppose.ensures.stands flat inputs t len)
