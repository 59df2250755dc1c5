use Rattle.luflow.proofs.Merges.{one_branch}
use Rattle.luflow.proofs.laws.merge_law.Goals as goal

pub returns : goal.returns
returns c = one_branch
