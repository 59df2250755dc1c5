use Rattle.std.proofs.Common.{◌≡◌, ◌<◌, ◌≤◌, ℕ, suc, length}
use Rattle.lublock_kernels.specs.Rows.{word_in}
use Rattle.lublock_kernels.specs.Machine.{row_of, ticks_of}
use Rattle.lublock.proofs.board.renew_rows.Given as goal

abbrev pub invariant-loop-i : goal.invariant-loop-i
invariant-loop-i l = record {
  len : length l.rows.items ≡ length l.fn.rows.items;
  done : (r : ℕ) → r < l.i → word_in (row_of l.rows.items r) 0 ≡ word_in (row_of l.fn.rows.items r) (ticks_of l.spans r);
  beside : (r n : ℕ) → word_in (row_of l.rows.items r) (suc n) ≡ word_in (row_of l.fn.rows.items r) (suc n);
  left : (r : ℕ) → l.i ≤ r → row_of l.rows.items r ≡ row_of l.fn.rows.items r;
}
