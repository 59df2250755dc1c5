use Rattle.std.proofs.Common.{◌≡◌, ℕ, length, Some}
use Rattle.std.specs.Prelude.{slice_get}
use Rattle.lublock.specs.Shown.{StaysNear}
use Rattle.lublock.proofs.reported.show_flows.Given as goal

abbrev pub invariant-loop-v : goal.invariant-loop-v
invariant-loop-v l = record {
  len : length l.columns.items ≡ length l.fn.columns.items;
  near : StaysNear l.flat l.t l.len l.board (λ v. (k : ℕ) × (slice_get l.needs k ≡ Some v)) l.fn.columns.items l.columns.items;
}
