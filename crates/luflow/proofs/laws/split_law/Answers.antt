use Rattle.luflow.proofs.Patterns.{splits}
use Rattle.luflow.proofs.laws.split_law.Goals as goal

pub returns : goal.returns
returns c = splits
