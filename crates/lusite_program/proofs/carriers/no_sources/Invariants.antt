use Rattle.std.proofs.Common.{◌≡◌, ℕ, ◌≤◌, length, None}
use Rattle.std.specs.Prelude.{slice_get, vec_capacity}
use Rattle.std.specs.Option.{ForSome}
use Rattle.lusite_program.proofs.carriers.no_sources.Given as goal

abbrev pub invariant-loop-i : goal.invariant-loop-i
invariant-loop-i l = record {
  len : length l.sources.items ≡ l._i;
  each : (k : ℕ) → ForSome (slice_get l.sources.items k) (λ x. x ≡ None);
  room : l.flows ≤ vec_capacity l.sources;
}
