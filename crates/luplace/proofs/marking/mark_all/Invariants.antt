use Rattle.std.proofs.Common.{◌≡◌, take}
use Rattle.luplace.specs.Marks.{marked_all}
use Rattle.luplace.proofs.marking.mark_all.Given as goal

abbrev pub invariant-loop-place : goal.invariant-loop-place
invariant-loop-place l = l.marks.items ≡ marked_all (take l.place-index l.places) l.initial.marks.items
