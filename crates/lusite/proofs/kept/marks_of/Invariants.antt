use Rattle.lusite.specs.KeptFlows.{AreMarks}
use Rattle.lusite.proofs.kept.marks_of.Given as goal

abbrev pub invariant-loop-k : goal.invariant-loop-k
invariant-loop-k l = AreMarks l.site_flows l.marks.items l.k
