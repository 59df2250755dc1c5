use Rattle.std.proofs.Common.{◌≡◌, ◌<◌, ℕ, Some}
use Rattle.std.specs.Prelude.{slice_get}
use Rattle.lulist.specs.Rows.{IsBefore}
use Rattle.lulist.proofs.fitting.are_before.Given as goal

abbrev pub invariant-loop-j : goal.invariant-loop-j
invariant-loop-j l = record { before : (i r : ℕ) → i < l.j → slice_get l.reads i ≡ Some r → IsBefore l.places l.numbers l.k r }
