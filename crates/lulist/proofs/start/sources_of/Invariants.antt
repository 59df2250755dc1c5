use Rattle.std.proofs.Common.{◌≡◌, ℕ, List, All, Some}
use Rattle.std.specs.Prelude.{slice_get}
use Rattle.std.specs.Vec.Iter.{into_iter_items}
use Rattle.luworld.specs.Jobs.{JobView}
use Rattle.lulink.specs.Views.{IsUnusedReceiver, ReceiverView}
use Rattle.lulist.specs.Starts.{IsFirstSource, IsListLink}
use Rattle.lulist.proofs.start.sources_of.Given as goal

abbrev pub invariant-loop-rx : goal.invariant-loop-rx
invariant-loop-rx l = record {
  first : (job : JobView) (places : List ℕ) → All (IsUnusedReceiver job) l.fn.rxs.items → All (IsListLink job.plan places) l.links → All (IsFirstSource job places) l.sources.items;
  rest : (j : ℕ) (x : ReceiverView) → slice_get (into_iter_items l.rx-iterator) j ≡ Some x → (m : ℕ) × (slice_get l.fn.rxs.items m ≡ Some x);
}
