use Rattle.std.proofs.Common.{◌≡◌, ◌<◌, ◌≤◌, ℕ, suc}
use Rattle.lublock_kernels.specs.Rows.{word_in}
use Rattle.lublock_kernels.proofs.parts.steady.Given as goal

abbrev pub invariant-loop-n : goal.invariant-loop-n
invariant-loop-n l = record {
  few : l.others ≤ l.n;
  words : l.others ≡ 0 → (k : ℕ) → l.from ≤ k → k < l.n → word_in l.y (suc k) ≡ l.m;
}
