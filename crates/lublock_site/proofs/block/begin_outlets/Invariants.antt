use Rattle.std.proofs.Common.{◌≡◌, ◌<◌, ◌≤◌, ℕ, Some, length}
use Rattle.std.specs.Prelude.{slice_get}
use Rattle.lublock_site.specs.declared.outlets.Outlet.{Outlet}
use Rattle.lublock_site.proofs.block.begin_outlets.Given as goal

abbrev pub invariant-loop-k : goal.invariant-loop-k
invariant-loop-k l = record {
  len : length l.outlets.items ≡ length l.fn.outlets.items;
  done : (j : ℕ) (y : Outlet) → j < l.k → slice_get l.outlets.items j ≡ Some y → (x : Outlet) × (slice_get l.fn.outlets.items j ≡ Some x) × (y ≡ record x { sent = 0 });
  left : (j : ℕ) → l.k ≤ j → slice_get l.outlets.items j ≡ slice_get l.fn.outlets.items j;
}
