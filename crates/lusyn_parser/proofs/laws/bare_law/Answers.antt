use Rattle.lusyn_parser.proofs.Bare.{bare-resolved}
use Rattle.lusyn_parser.proofs.laws.bare_law.Goals as goal

pub returns : goal.returns
returns c = bare-resolved
