use Rattle.luplace.specs.Sent.{AreSentNils}
use Rattle.luplace.proofs.way.sent_nils.Given as goal

abbrev pub invariant-loop-link : goal.invariant-loop-link
invariant-loop-link l = AreSentNils l.plan l.nils l.link-index l.marks.items
