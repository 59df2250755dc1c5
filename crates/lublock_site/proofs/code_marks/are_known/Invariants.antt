use Rattle.std.proofs.Common.{◌≡◌, ◌<◌, ℕ, true, Some}
use Rattle.std.specs.Prelude.{slice_get}
use Rattle.lublock_kernels.specs.Parts.{knows}
use Rattle.lublock_site.specs.Marks.{marked_part}
use Rattle.lublock_site.proofs.code_marks.are_known.Given as goal

abbrev pub invariant-loop-k : goal.invariant-loop-k
invariant-loop-k l = record { known : (j v : ℕ) → j < l.k → slice_get l.needs j ≡ Some v → knows (marked_part l.own l.taken) v ≡ true }
