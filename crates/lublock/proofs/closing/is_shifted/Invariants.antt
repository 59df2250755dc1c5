use Rattle.std.proofs.Common.{◌≡◌, ◌<◌, ◌≤◌, ℕ, suc}
use Rattle.lublock_kernels.specs.Rows.{word_in}
use Rattle.lublock.proofs.closing.is_shifted.Given as goal

abbrev pub invariant-loop-m : goal.invariant-loop-m
invariant-loop-m l = record {
  few : l.others ≤ l.m;
  shifted : l.others ≡ 0 → (n : ℕ) → n < l.m → word_in l.x (suc n) ≡ word_in l.a n;
}
