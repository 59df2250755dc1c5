use Rattle.std.proofs.Common.{[]}
use Rattle.luplace.specs.Placing.{bare}
use Rattle.luplace.specs.Marks.{AreClosedMarks}
use Rattle.luplace.proofs.marking.site_marks.Given as goal

abbrev pub invariant-loop-p : goal.invariant-loop-p
invariant-loop-p l = AreClosedMarks (bare l.flat [] l.placed) l.site l.p l.marks.items
