use Rattle.std.proofs.Common.{◌≡◌, length, false}
use Rattle.lublock_kernels.specs.Rows.{IsFilled, Keeps}
use Rattle.lublock_kernels.proofs.rows.fill.Given as goal

abbrev pub invariant-loop-m : goal.invariant-loop-m
invariant-loop-m g l = record {
  len : length l.row ≡ length l.fn.row;
  kept : Keeps l.fn.from l.fn.row l.row;
  filled : l.fault ≡ false → IsFilled (λ m r. goal.F-post g l.word m r) l.fn.from l.m l.row;
}
