use Rattle.lusyn_parser.proofs.Once.{resolved-twice}
use Rattle.lusyn_parser.proofs.laws.once_law.Goals as goal

pub returns : goal.returns
returns c = resolved-twice
