use Rattle.std.proofs.Common.{ℕ, ◌+◌, slice_get}
use Rattle.std.specs.Vec.Iter.{into_iter_items}
use Rattle.luflow.specs.Tables.{outputs_view}
use Rattle.lusite.specs.Logs.{IsOutput}
use Rattle.lusite_program.specs.Logs.{row_items}
use Rattle.lurun.proofs.Columns.{AreMoved}
use Rattle.lurun.proofs.collecting.add_site.Given as goal

-- the rows so far are moved, and those that are left are of the columns that are left
abbrev pub invariant-loop-k : goal.invariant-loop-k
invariant-loop-k l = record {
  moved : AreMoved l.fn.report l.k (outputs_view l.initial.columns.items) (outputs_view l.columns.items);
  left : (j : ℕ) → IsOutput l.fn.report.job l.fn.report.site l.fn.report.done (l.k + j) (row_items (slice_get (into_iter_items l.rows) j));
}
