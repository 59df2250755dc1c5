use Rattle.luflow.specs.Tables.{columns_view}
use Rattle.lutab.specs.Table.{sorts_in}
use Rattle.lutab.proofs.Fields.{SoFar}
use Rattle.lutab.proofs.row.read_fields.Given as goal

abbrev pub invariant-loop-i : goal.invariant-loop-i
invariant-loop-i l = SoFar (sorts_in l.types l.kinds) l.bytes (columns_view l.fn.columns) l.i l.rest (columns_view l.columns)
