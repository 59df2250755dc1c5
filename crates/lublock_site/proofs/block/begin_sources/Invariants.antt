use Rattle.std.proofs.Common.{◌≡◌, ◌<◌, ◌≤◌, ℕ, Some, length}
use Rattle.std.specs.Prelude.{slice_get}
use Rattle.lublock_site.specs.declared.sources.Source.{Source}
use Rattle.lublock_site.proofs.block.begin_sources.Given as goal

abbrev pub invariant-loop-k : goal.invariant-loop-k
invariant-loop-k l = record {
  len : length l.sources.items ≡ length l.fn.sources.items;
  done : (j : ℕ) (y : Source) → j < l.k → slice_get l.sources.items j ≡ Some y → (x : Source) × (slice_get l.fn.sources.items j ≡ Some x) × (y ≡ record x { got = 0 });
  left : (j : ℕ) → l.k ≤ j → slice_get l.sources.items j ≡ slice_get l.fn.sources.items j;
}
