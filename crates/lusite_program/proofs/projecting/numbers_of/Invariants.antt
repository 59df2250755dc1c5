use Rattle.std.proofs.Common.{◌≡◌, ℕ, ◌<◌, length, Some, slice_get}
use Rattle.lusite_program.proofs.projecting.numbers_of.Given as goal

abbrev pub invariant-loop-k : goal.invariant-loop-k
invariant-loop-k l = record {
  len : length l.numbers.items ≡ l.flows;
  done : (j i : ℕ) → j < l.k → slice_get l.places j ≡ Some i → slice_get l.numbers.items i ≡ Some j;
}
