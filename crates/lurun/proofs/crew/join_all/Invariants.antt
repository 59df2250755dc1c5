use Rattle.std.proofs.Common.{◌≤◌, ◌+◌, length, vec_len, vec_capacity}
use Rattle.std.specs.Vec.Iter.{into_iter_items}
use Rattle.lurun.specs.Shares.{promised}
use Rattle.lurun.specs.Crew.{AreReportedSoFar}
use Rattle.lurun.proofs.crew.join_all.Given as goal

abbrev pub invariant-loop-worker : goal.invariant-loop-worker
invariant-loop-worker g l = record {
  room : vec_len l.all + length (promised (into_iter_items l.worker-iterator)) ≤ vec_capacity l.all;
  so_far : AreReportedSoFar (promised l.fn.workers.items) l.all.items (promised (into_iter_items l.worker-iterator));
}
