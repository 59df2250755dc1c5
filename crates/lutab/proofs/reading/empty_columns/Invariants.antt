use Rattle.std.proofs.Common.{List, take}
use Rattle.luflow.specs.declared.variable.Enum.{Enum}
use Rattle.luflow.specs.Tables.{columns_view}
use Rattle.lutab.specs.Filling.{AreEmptyOf}
use Rattle.lutab.proofs.reading.empty_columns.Given as goal

abbrev pub invariant-loop-input : goal.invariant-loop-input
invariant-loop-input l = (types : List Enum) → AreEmptyOf types (take l.input-index l.inputs) (columns_view l.columns.items)
