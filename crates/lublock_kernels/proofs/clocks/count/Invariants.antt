use Rattle.std.proofs.Common.{◌≡◌, ◌≤◌}
use Rattle.lublock_kernels.specs.Rows.{hits_in}
use Rattle.lublock_kernels.proofs.clocks.count.Given as goal

abbrev pub invariant-loop-m : goal.invariant-loop-m
invariant-loop-m l = record {
  count : l.hits ≡ hits_in l.c l.kind l.datum l.m;
  few : l.hits ≤ l.m;
}
