use Rattle.std.proofs.Common.{◌≡◌, ℕ, ◌≤◌, [], length}
use Rattle.std.specs.Prelude.{slice_get, vec_capacity}
use Rattle.std.specs.Option.{ForSome}
use Rattle.lusite_program.proofs.carriers.no_rows.Given as goal

abbrev pub invariant-loop-i : goal.invariant-loop-i
invariant-loop-i l = record {
  len : length l.rows.items ≡ l._i;
  each : (k : ℕ) → ForSome (slice_get l.rows.items k) (λ x. x.items ≡ []);
  room : l.flows ≤ vec_capacity l.rows;
}
