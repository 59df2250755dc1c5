use Rattle.std.proofs.Common.{◌≡◌, take}
use Rattle.lucore_build.specs.Operands.{places_of}
use Rattle.lucore_build.proofs.walk.row_of_places.Given as goal

abbrev pub invariant-loop-x : goal.invariant-loop-x
invariant-loop-x l = l.places.items ≡ places_of (take l.x-index l.operands)
