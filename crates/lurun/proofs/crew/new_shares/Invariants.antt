use Rattle.std.proofs.Common.{◌≡◌, ◌≤◌, ◌+◌, ◌++◌, All, filter, map, vec_len, vec_capacity}
use Rattle.std.specs.Vec.Iter.{into_iter_items, into_iter_len}
use Rattle.lurun.specs.declared.served.Share.{Share}
use Rattle.lurun.specs.Crew.{IsNewShare, dealt, has_station, held}
use Rattle.lurun.proofs.crew.new_shares.Given as goal

abbrev pub invariant-loop-served : goal.invariant-loop-served
invariant-loop-served l = record {
  room : vec_len l.started + into_iter_len l.served-iterator ≤ vec_capacity l.started;
  each : All IsNewShare l.started.items;
  shares : map (λ (h : Share). h.served) l.started.items ++ filter has_station (into_iter_items l.served-iterator) ≡ filter has_station l.fn.shares.items;
  all : held l.started.items ++ dealt (into_iter_items l.served-iterator) ≡ dealt l.fn.shares.items;
}
