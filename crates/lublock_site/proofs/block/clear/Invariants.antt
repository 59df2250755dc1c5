use Rattle.std.proofs.Common.{◌≡◌, ◌<◌, ℕ, false}
use Rattle.lublock_site.specs.Marks.{marked}
use Rattle.lublock_site.proofs.block.clear.Given as goal

abbrev pub invariant-loop-k : goal.invariant-loop-k
invariant-loop-k l = record { none : (j : ℕ) → j < l.k → marked l.marks.items j ≡ false }
