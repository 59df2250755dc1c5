use Rattle.std.proofs.Common.{◌≡◌, ℕ, true, Some}
use Rattle.std.specs.Prelude.{slice_get, ◌⊎◌}
use Rattle.lublock_site.specs.Marks.{marked}
use Rattle.lublock_site.proofs.sure.mark_all.Given as goal

abbrev pub invariant-loop-k : goal.invariant-loop-k
invariant-loop-k l = record {
  kept : (i : ℕ) → marked l.fn.marks.items i ≡ true → marked l.marks.items i ≡ true;
  added : (i : ℕ) → marked l.marks.items i ≡ true → (marked l.fn.marks.items i ≡ true) ⊎ ((j : ℕ) × (slice_get l.flows j ≡ Some i));
}
