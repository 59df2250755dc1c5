use Rattle.std.proofs.Common.{◌≡◌, ◌<◌, ◌≤◌, ℕ, length, Some, []}
use Rattle.std.specs.Prelude.{slice_get, ◌⊎◌}
use Rattle.lublock.specs.Shown.{Column, first_of}
use Rattle.lublock.proofs.reported.clear_others.Given as goal

abbrev pub invariant-loop-v : goal.invariant-loop-v
invariant-loop-v l = record {
  len : length l.columns.items ≡ length l.fn.columns.items;
  done : (j : ℕ) (x : Column) → j < l.v → slice_get l.columns.items j ≡ Some x → (((t : ℕ) → first_of l.flat j t ≡ 0) × (slice_get l.fn.columns.items j ≡ Some x)) ⊎ (x.items ≡ []);
  left : (j : ℕ) → l.v ≤ j → slice_get l.columns.items j ≡ slice_get l.fn.columns.items j;
}
