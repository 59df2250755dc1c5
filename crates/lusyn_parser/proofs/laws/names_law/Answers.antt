use Rattle.std.proofs.Common.{refl}
use Rattle.lusyn_parser.proofs.laws.names_law.Goals as goal

pub returns : goal.returns
returns c = record { first = refl; second = refl; other_type = refl; no_name = refl; type_second = refl; no_type = refl }
