use Rattle.std.proofs.Common.{◌≡◌, ◌≤◌, length}
use Rattle.lublock_kernels.specs.Rows.{hits_in, Keeps, IsHeld}
use Rattle.lublock_kernels.proofs.clocks.hold.Given as goal

abbrev pub invariant-loop-m : goal.invariant-loop-m
invariant-loop-m l = record {
  count : l.hits ≡ hits_in l.c l.kind l.datum l.m;
  few : l.hits ≤ l.m;
  len : length l.row ≡ length l.fn.row;
  kept : Keeps 0 l.fn.row l.row;
  words : IsHeld l.kind l.datum l.m l.limit l.c l.a l.row;
}
