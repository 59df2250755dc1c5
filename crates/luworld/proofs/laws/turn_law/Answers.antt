use Rattle.luworld.proofs.Turns.{turn_is}
use Rattle.luworld.proofs.laws.turn_law.Goals as goal

pub returns : goal.returns
returns c = turn_is
