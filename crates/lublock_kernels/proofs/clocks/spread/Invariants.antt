use Rattle.lublock_kernels.proofs.Counting.{Spreading}
use Rattle.lublock_kernels.proofs.clocks.spread.Given as goal

abbrev pub invariant-loop-m : goal.invariant-loop-m
invariant-loop-m l = Spreading l.kind l.datum l.m l.limit l.to l.hits l.c l.x l.fn.row l.row
