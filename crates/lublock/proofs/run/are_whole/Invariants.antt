use Rattle.std.proofs.Common.{◌≡◌, ◌<◌, ℕ, length, true, Some}
use Rattle.std.specs.Prelude.{slice_get}
use Rattle.luflow.specs.declared.variable.Variable.{Variable}
use Rattle.luflow.specs.Variables.{is_output}
use Rattle.lublock.specs.Shown.{Column}
use Rattle.lublock.proofs.run.are_whole.Given as goal

abbrev pub invariant-loop-v : goal.invariant-loop-v
invariant-loop-v l = (j : ℕ) (x : Variable) (column : Column) → j < l.v → slice_get l.variables j ≡ Some x → is_output x.role ≡ true → slice_get l.columns j ≡ Some column → length column.items ≡ l.instants
