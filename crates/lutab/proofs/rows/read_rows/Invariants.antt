use Rattle.std.proofs.Common.{length, map}
use Rattle.luflow.specs.Tables.{columns_view}
use Rattle.lutab.specs.Table.{sorts_in}
use Rattle.lutab.proofs.Reached.{ReadSoFar}
use Rattle.lutab.proofs.rows.read_rows.Given as goal

abbrev pub invariant-loop-rest : goal.invariant-loop-rest
invariant-loop-rest l = ReadSoFar (sorts_in l.types l.kinds) (map (λ c. c.name) (columns_view l.fn.columns)) l.bytes l.instants l.rest (columns_view l.columns)

abbrev pub decreases-loop-rest : goal.decreases-loop-rest
decreases-loop-rest l = length l.rest
