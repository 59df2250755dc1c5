use Rattle.std.proofs.Common.{◌<◌, ℕ}
use Rattle.lublock_kernels.specs.Machine.{ClosesAt}
use Rattle.lublock.proofs.closing.closes.Given as goal

abbrev pub invariant-loop-i : goal.invariant-loop-i
invariant-loop-i l = record { closed : (j : ℕ) → j < l.i → ClosesAt l.flat l.rows l.spans j }
