use Rattle.luworld.proofs.Ended.{done_ends}
use Rattle.luworld.proofs.laws.done_ends_law.Goals as goal

pub returns : goal.returns
returns c = done_ends
