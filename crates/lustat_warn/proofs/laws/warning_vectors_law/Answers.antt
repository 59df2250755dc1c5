use Rattle.lustat_warn.proofs.Worked.{told, main_is_used}
use Rattle.lustat_warn.proofs.laws.warning_vectors_law.Goals as goal

pub returns : goal.returns
returns c = record { told = told; main_is_used = main_is_used }
