use Rattle.std.proofs.Common.{◌≡◌, ◌++◌, vec_len}
use Rattle.std.specs.List.Sorted.{IsPermutation}
use Rattle.std.specs.Vec.Iter.{into_iter_items}
use Rattle.lurun.specs.Crew.{AreDealt, dealt}
use Rattle.lurun.proofs.crew.deal.Given as goal

-- the stations that are dealt, and those that are left
abbrev pub invariant-loop-station : goal.invariant-loop-station
invariant-loop-station l = record {
  len : vec_len l.shares ≡ l.count;
  each : AreDealt l.count l.shares.items;
  all : IsPermutation l.fn.stations.items (dealt l.shares.items ++ into_iter_items l.station-iterator);
}
