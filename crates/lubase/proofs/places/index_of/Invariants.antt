use Rattle.std.proofs.Common.{◌≡◌, ℕ, List, drop}
use Rattle.lubase.specs.Places.{place_from, looked_up}
use Rattle.lubase.proofs.Finding.{texts}
use Rattle.lubase.proofs.places.index_of.Given as goal

abbrev pub invariant-loop-i : goal.invariant-loop-i
invariant-loop-i l = (x : List ℕ) → looked_up l.index x ≡ place_from l.i (texts (drop l.i l.names)) x
