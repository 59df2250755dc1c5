use Rattle.std.proofs.Common.{◌≡◌, ◌<◌, ℕ, length, Some}
use Rattle.std.specs.Prelude.{slice_get}
use Rattle.lublock_kernels.specs.Rows.{Keeps}
use Rattle.lublock_kernels.specs.Machine.{IsBranch}
use Rattle.lublock_kernels.proofs.clocked.solve_branches.Given as goal

abbrev pub invariant-loop-k : goal.invariant-loop-k
invariant-loop-k l = record {
  len : length l.row ≡ length l.fn.row;
  kept : Keeps 0 l.fn.row l.row;
  words : (j x : ℕ) → j < l.k → slice_get l.branches j ≡ Some x → IsBranch l.rows l.spans l.kind l.to l.c j x l.row;
}
