use Rattle.std.proofs.Common.{◌≡◌, ℕ, ◌≤◌, [], length, Some, slice_get}
use Rattle.std.specs.Prelude.{vec_capacity}
use Rattle.lurun.specs.declared.opening.Ends.{Ends}
use Rattle.lurun.specs.Making.{IsEnds}
use Rattle.lurun.proofs.opening.no_ends.Given as goal

abbrev pub invariant-loop : goal.invariant-loop
invariant-loop l = record {
  len : length l.all.items ≡ l.counter;
  each : (s : ℕ) (b : Ends) → slice_get l.all.items s ≡ Some b → IsEnds l.job [] 0 s b;
  room : l.count ≤ vec_capacity l.all;
}
