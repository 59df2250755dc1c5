use Rattle.luflow.proofs.Prefixes.{prefix_same}
use Rattle.luflow.proofs.laws.prefix_law.Goals as goal

pub returns : goal.returns
returns c = prefix_same
