use Rattle.lusyn_parser.proofs.Once.{untyped}
use Rattle.lusyn_parser.proofs.laws.untyped_law.Goals as goal

pub returns : goal.returns
returns c = untyped
