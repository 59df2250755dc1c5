use Rattle.std.proofs.Common.{◌≡◌, map, take}
use Rattle.luflow.specs.Tables.{outputs_view}
use Rattle.lueval_lines.specs.Columns.{lists_of}
use Rattle.luinside.specs.Passing.{column_by}
use Rattle.luinside.proofs.columns.columns.Given as goal

abbrev pub invariant-loop-k : goal.invariant-loop-k
invariant-loop-k l = outputs_view l.columns.items ≡ map (column_by (lists_of l.streams)) (take l.k l.variables)
