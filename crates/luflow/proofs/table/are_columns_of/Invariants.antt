use Rattle.std.proofs.Common.{◌↔◌}
use Rattle.luflow.specs.Tables.{AreColumnsOf, columns_view}
use Rattle.luflow.proofs.Columns.{From}
use Rattle.luflow.proofs.table.are_columns_of.Given as goal

-- the columns are those of the inputs exactly where the rest of both are
abbrev pub invariant-loop-i : goal.invariant-loop-i
invariant-loop-i l = From l.variables l.columns l.i ↔ AreColumnsOf l.variables (columns_view l.columns)
