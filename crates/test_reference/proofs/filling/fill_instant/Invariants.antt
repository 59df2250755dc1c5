use Rattle.std.proofs.Common.{◌≡◌}
use Rattle.test_reference.specs.Filled.{IsFilledTo}
use Rattle.test_reference.proofs.filling.fill_instant.Given as goal

abbrev pub invariant-loop-place : goal.invariant-loop-place
invariant-loop-place l = record {
  filled : IsFilledTo l.flat l.inputs l.grid l.instant l.place-index;
  instants : l.grid.instants ≡ l.initial.grid.instants;
}
