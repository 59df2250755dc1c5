use Rattle.std.proofs.Common.{◌≡◌, map, take}
use Rattle.luplace.specs.Marks.{marked_places}
use Rattle.luplace.proofs.marking.needs_of.Given as goal

abbrev pub invariant-loop-marks : goal.invariant-loop-marks
invariant-loop-marks l = l.needs.items ≡ map marked_places (take l.marks-index l.rows)
