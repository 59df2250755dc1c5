use Rattle.std.proofs.Common.{◌≡◌, ◌≤◌, ◌+◌, ◌++◌, map, vec_len, vec_capacity}
use Rattle.std.specs.Vec.Iter.{into_iter_items, into_iter_len}
use Rattle.lurun.specs.declared.engine.Engine.TheVariants.{Items}
use Rattle.lurun.specs.Crew.{reported}
use Rattle.lurun.specs.Stations.{AllGoBy, place_of, places}
use Rattle.lurun.proofs.leaving.all_left.Given as goal

abbrev pub invariant-loop-report : goal.invariant-loop-report
invariant-loop-report l = record {
  room : vec_len l.all + into_iter_len l.report-iterator ≤ vec_capacity l.all;
  so_far : map place_of l.all.items ++ places (reported (into_iter_items l.report-iterator)) ≡ places (reported l.fn.reports.items);
  by_items : AllGoBy Items (reported l.fn.reports.items) → AllGoBy Items (reported (into_iter_items l.report-iterator));
}
