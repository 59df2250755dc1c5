use Rattle.std.proofs.Common.{◌≡◌}
use Rattle.test_reference.specs.Filled.{IsFilled}
use Rattle.test_reference.proofs.filling.filled.Given as goal

abbrev pub invariant-loop-instant : goal.invariant-loop-instant
invariant-loop-instant l = record {
  filled : IsFilled l.flat l.inputs l.grid l.instant;
  instants : l.grid.instants ≡ l.instants;
}
