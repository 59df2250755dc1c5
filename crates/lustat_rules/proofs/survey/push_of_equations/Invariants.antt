use Rattle.lustat_rules.proofs.Judging.{FaultBefore}
use Rattle.lustat_rules.specs.AllFaults.{Gains}
use Rattle.lustat_rules.proofs.survey.push_of_equations.Given as goal

abbrev pub invariant-loop-j : goal.invariant-loop-j
invariant-loop-j g l = Gains (FaultBefore l.j l.scope.equations (g.S.Stage.breaks_equation l.survey l.scope)) l.initial.found.items l.found.items
