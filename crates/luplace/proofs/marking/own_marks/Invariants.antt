use Rattle.std.proofs.Common.{[]}
use Rattle.luplace.specs.Placing.{bare}
use Rattle.luplace.specs.Marks.{AreOwnMarks}
use Rattle.luplace.proofs.marking.own_marks.Given as goal

abbrev pub invariant-loop-i : goal.invariant-loop-i
invariant-loop-i l = AreOwnMarks (bare l.flat [] l.placed) l.site l.i l.marks.items
