use Rattle.std.proofs.Common.{◌≡◌, ℕ, List, All, Some}
use Rattle.std.specs.Prelude.{slice_get}
use Rattle.std.specs.Vec.Iter.{into_iter_items}
use Rattle.luworld.specs.Jobs.{JobView}
use Rattle.lulink.specs.Views.{IsUnusedSender, SenderView}
use Rattle.lulist.specs.Starts.{IsFirstOutlet, IsListLink}
use Rattle.lulist.proofs.start.outlets_of.Given as goal

abbrev pub invariant-loop-tx : goal.invariant-loop-tx
invariant-loop-tx l = record {
  first : (job : JobView) (places : List ℕ) → All (IsUnusedSender job) l.fn.txs.items → All (IsListLink job.plan places) l.links → All (IsFirstOutlet job places) l.outlets.items;
  rest : (j : ℕ) (x : SenderView) → slice_get (into_iter_items l.tx-iterator) j ≡ Some x → (m : ℕ) × (slice_get l.fn.txs.items m ≡ Some x);
}
