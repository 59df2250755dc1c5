use Rattle.lustat_rules.proofs.Judging.{FaultBefore}
use Rattle.lustat_rules.specs.AllFaults.{Gains}
use Rattle.lustat_rules.proofs.survey.push_of_names.Given as goal

abbrev pub invariant-loop-j : goal.invariant-loop-j
invariant-loop-j g l = Gains (FaultBefore l.j l.declaration.names (g.S.Stage.breaks_name l.survey l.place l.declaration)) l.initial.found.items l.found.items
