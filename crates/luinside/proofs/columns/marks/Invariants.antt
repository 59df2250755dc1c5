use Rattle.std.proofs.Common.{◌≡◌, ◌<◌, ℕ, length, true, Some}
use Rattle.std.specs.Prelude.{slice_get}
use Rattle.luinside.specs.declared.variables.DeepVariable.{DeepVariable}
use Rattle.luinside.proofs.columns.marks.Given as goal

abbrev pub invariant-loop-k : goal.invariant-loop-k
invariant-loop-k l = record {
  len : length l.marks.items ≡ l.count;
  done : (j : ℕ) (d : DeepVariable) → j < l.k → slice_get l.variables j ≡ Some d → slice_get l.marks.items d.flow ≡ Some true;
}
