use Rattle.lustat_rules.specs.Faults.{IsJudged}
use Rattle.lustat_rules.proofs.Judging.{FaultBefore, KeptBefore}
use Rattle.lustat_rules.proofs.stage.equations_fault.Given as goal

abbrev pub invariant-loop-j : goal.invariant-loop-j
invariant-loop-j g l =
    IsJudged (FaultBefore l.j l.scope.equations (g.S.Stage.breaks_equation l.stage l.scope)) (KeptBefore l.j l.scope.equations (g.S.Stage.keeps_equation l.stage l.scope)) l.best
