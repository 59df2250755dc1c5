use Rattle.std.proofs.Common.{◌≡◌, ◌≤◌, ◌+◌, ◌++◌, All, vec_len, vec_capacity}
use Rattle.std.specs.Vec.Iter.{into_iter_items, into_iter_len}
use Rattle.lurun.specs.Crew.{IsNewShare, held}
use Rattle.lurun.specs.Shares.{promised}
use Rattle.lurun.proofs.crew.start_all.Given as goal

abbrev pub invariant-loop-share : goal.invariant-loop-share
invariant-loop-share g l = record {
  room : vec_len l.workers + into_iter_len l.share-iterator ≤ vec_capacity l.workers;
  each : All IsNewShare (into_iter_items l.share-iterator);
  all : promised l.workers.items ++ held (into_iter_items l.share-iterator) ≡ held l.fn.started.items;
}
