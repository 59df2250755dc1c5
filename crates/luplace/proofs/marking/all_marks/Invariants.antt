use Rattle.std.proofs.Common.{[]}
use Rattle.luplace.specs.Placing.{bare}
use Rattle.luplace.specs.Marks.{AreAllMarks}
use Rattle.luplace.proofs.marking.all_marks.Given as goal

abbrev pub invariant-loop-site : goal.invariant-loop-site
invariant-loop-site l = AreAllMarks (bare l.flat [] l.placed) l.site l.rows.items
