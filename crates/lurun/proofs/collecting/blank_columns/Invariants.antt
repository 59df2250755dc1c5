use Rattle.std.proofs.Common.{◌≡◌, ◌≤◌, ℕ, [], Some, slice_get, length}
use Rattle.std.specs.Prelude.{vec_capacity}
use Rattle.luflow.specs.Tables.{OutputColumn, outputs_view}
use Rattle.lurun.specs.Reports.{IsReportedBySome}
use Rattle.lurun.proofs.collecting.blank_columns.Given as goal

abbrev pub invariant-loop-k : goal.invariant-loop-k
invariant-loop-k l = record {
  len : length l.columns.items ≡ l.k;
  room : length l.names ≤ vec_capacity l.columns;
  each : (j : ℕ) (x : OutputColumn) → slice_get (outputs_view l.columns.items) j ≡ Some x → (slice_get l.names j ≡ Some x.name) × IsReportedBySome [] j x.statuses;
}
