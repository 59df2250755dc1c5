use Rattle.std.proofs.Common.{◌≡◌, ◌<◌, ◌≤◌, ℕ, length}
use Rattle.std.specs.Prelude.{slice_get}
use Rattle.lublock.proofs.Renewing.{Renewed}
use Rattle.lublock.proofs.board.renew_spans.Given as goal

abbrev pub invariant-loop-i : goal.invariant-loop-i
invariant-loop-i l = record {
  len : length l.spans.items ≡ length l.fn.spans.items;
  done : (r : ℕ) → r < l.i → Renewed l.flat l.fn.spans.items l.spans.items r;
  left : (r : ℕ) → l.i ≤ r → slice_get l.spans.items r ≡ slice_get l.fn.spans.items r;
}
