use Rattle.luworld.proofs.Example.{example_is}
use Rattle.luworld.proofs.laws.example_law.Goals as goal

pub returns : goal.returns
returns c = example_is
