use Rattle.lustat_rules.specs.Faults.{declared_in}
use Rattle.lustat_rules.proofs.Judging.{FaultBefore}
use Rattle.lustat_rules.specs.AllFaults.{Gains}
use Rattle.lustat_rules.proofs.survey.push_of_declarations.Given as goal

abbrev pub invariant-loop-j : goal.invariant-loop-j
invariant-loop-j g l = Gains (FaultBefore l.j (declared_in l.scope) (g.S.Stage.breaks_declaration l.survey l.scope)) l.initial.found.items l.found.items
