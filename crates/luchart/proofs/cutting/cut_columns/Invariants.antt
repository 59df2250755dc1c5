use Rattle.std.proofs.Common.{◌≡◌, map, take}
use Rattle.luflow.specs.Tables.{columns_view}
use Rattle.luchart.specs.Cut.{cut_column}
use Rattle.luchart.proofs.cutting.cut_columns.Given as goal

abbrev pub invariant-loop-column : goal.invariant-loop-column
invariant-loop-column l = columns_view l.cut.items ≡ map (cut_column l.instants) (columns_view (take l.column-index l.columns))
