use Rattle.luworld.proofs.Left.{left_is}
use Rattle.luworld.proofs.laws.left_law.Goals as goal

pub returns : goal.returns
returns c = left_is
