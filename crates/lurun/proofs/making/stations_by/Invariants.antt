use Rattle.std.proofs.Common.{◌≡◌, ◌≤◌, ◌+◌, length, vec_len, vec_capacity}
use Rattle.std.specs.Vec.Iter.{into_iter_items, into_iter_len}
use Rattle.luworld.specs.Needs.{sites_of}
use Rattle.lurun.proofs.Made.{AreMade}
use Rattle.lurun.proofs.making.stations_by.Given as goal

-- the stations so far are those of the first sites, and the ends that are left those of the others
abbrev pub invariant-loop-ends : goal.invariant-loop-ends
invariant-loop-ends l = record {
  room : vec_len l.stations + into_iter_len l.ends-iterator ≤ vec_capacity l.stations;
  count : vec_len l.stations + into_iter_len l.ends-iterator ≡ sites_of l.job.plan;
  site : l.site ≡ length l.stations.items;
  are : AreMade l.job l.engine l.stations.items (into_iter_items l.ends-iterator);
}
