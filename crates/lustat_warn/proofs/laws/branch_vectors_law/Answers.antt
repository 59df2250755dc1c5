use Rattle.std.proofs.Common.{refl}
use Rattle.lustat_warn.proofs.laws.branch_vectors_law.Goals as goal

pub returns : goal.returns
returns c = record { first = refl; second = refl; condition = refl; condition_inside = refl; no_choice = refl; no_division = refl; deep = refl; under_call = refl; beside = refl; in_condition = refl; sampled = refl; merged = refl }
