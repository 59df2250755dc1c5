use Rattle.std.proofs.Common.{◌≡◌, ◌≤◌, ◌+◌, ◌++◌, vec_len, vec_capacity}
use Rattle.std.specs.Vec.Iter.{into_iter_items, into_iter_len}
use Rattle.lurun.proofs.crew.gather.Given as goal

abbrev pub invariant-loop-report : goal.invariant-loop-report
invariant-loop-report l = record {
  room : vec_len l.all + into_iter_len l.report-iterator ≤ vec_capacity l.all;
  capacity : vec_capacity l.all ≡ vec_capacity l.initial.all;
  items : l.all.items ++ into_iter_items l.report-iterator ≡ l.initial.all.items ++ l.fn.reports.items;
}
