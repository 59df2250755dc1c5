use Rattle.std.proofs.Common.{◌≡◌, length}
use Rattle.lublock_kernels.specs.Rows.{Keeps}
use Rattle.lublock.proofs.board.put_all.Given as goal

abbrev pub invariant-loop-m : goal.invariant-loop-m
invariant-loop-m l = record {
  len : length l.row ≡ length l.fn.row;
  kept : Keeps 0 l.fn.row l.row;
}
