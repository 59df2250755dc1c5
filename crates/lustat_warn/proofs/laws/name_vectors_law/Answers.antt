use Rattle.std.proofs.Common.{refl}
use Rattle.lustat_warn.proofs.laws.name_vectors_law.Goals as goal

pub returns : goal.returns
returns c = record { read = refl; read_in_call = refl; called = refl; none_called = refl }
