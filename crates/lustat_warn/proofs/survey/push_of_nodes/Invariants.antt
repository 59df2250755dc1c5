use Rattle.lustat_warn.specs.Warnings.{InNode}
use Rattle.lustat_warn.specs.Scans.{Adds}
use Rattle.lustat_warn.proofs.Adding.{AmongFirst}
use Rattle.lustat_warn.proofs.survey.push_of_nodes.Given as goal

abbrev pub invariant-loop-i : goal.invariant-loop-i
invariant-loop-i l = Adds (AmongFirst l.i l.nodes (InNode l.called l.main)) l.initial.found.items l.found.items
