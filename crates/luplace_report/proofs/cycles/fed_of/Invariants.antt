use Rattle.luplace_report.proofs.Feeding.{AreFedTo}
use Rattle.luplace_report.proofs.cycles.fed_of.Given as goal

abbrev pub invariant-loop-site : goal.invariant-loop-site
invariant-loop-site l = AreFedTo l.plan l.site l.fed.items
