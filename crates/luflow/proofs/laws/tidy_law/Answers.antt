use Rattle.luflow.proofs.Tidied.{keeps_types}
use Rattle.luflow.proofs.laws.tidy_law.Goals as goal

pub returns : goal.returns
returns c = keeps_types
