use Rattle.std.proofs.Common.{rules}
use Rattle.lublock.proofs.Standing.{still_same, still_more}
use Rattle.lublock.proofs.board.Board.suppose_twins.Goals as goal

pub loop-twin-init : goal.loop-twin-init
loop-twin-init c = record { stands = λ flat inputs t len. still_same flat inputs t len c.args.self.now; flows = search rules }

pub loop-twin-preserved : goal.loop-twin-preserved
loop-twin-preserved c = record {
  stands = λ flat inputs t len. still_more flat inputs t len c.args.self.now c.loop-twin.self c.suppose.new.self (c.loop-twin.invariant.stands flat inputs t len) (c.suppose.ensures.stands flat inputs t len);
  flows = search rules;
}

pub returns-then-suppose-clause-stands : goal.returns-then-suppose-clause-stands
returns-then-suppose-clause-stands c = λ flat inputs t len. still_more flat inputs t len c.args.self.now c.loop-twin.self c.suppose.new.self (c.loop-twin.invariant.stands flat inputs t len) (c.suppose.ensures.stands flat inputs t len)
