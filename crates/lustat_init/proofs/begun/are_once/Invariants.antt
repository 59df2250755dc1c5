use Rattle.std.proofs.Common.{◌≡◌, ◌<◌, ℕ, List, Some}
use Rattle.std.specs.Prelude.{slice_get}
use Rattle.lubase.specs.Places.{first_place}
use Rattle.lustat_init.specs.Beginnings.{spelled}
use Rattle.lustat_init.proofs.begun.are_once.Given as goal

abbrev pub invariant-loop-i : goal.invariant-loop-i
invariant-loop-i l = (k : ℕ) (x : List ℕ) → k < l.i → slice_get (spelled l.all) k ≡ Some x → first_place (spelled l.all) x ≡ Some k
