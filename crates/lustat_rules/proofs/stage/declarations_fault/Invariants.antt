use Rattle.lustat_rules.specs.Faults.{declared_in, IsJudged}
use Rattle.lustat_rules.proofs.Judging.{FaultBefore, KeptBefore}
use Rattle.lustat_rules.proofs.stage.declarations_fault.Given as goal

abbrev pub invariant-loop-j : goal.invariant-loop-j
invariant-loop-j g l =
    IsJudged (FaultBefore l.j (declared_in l.scope) (g.S.Stage.breaks_declaration l.stage l.scope)) (KeptBefore l.j (declared_in l.scope) (g.S.Stage.keeps_declaration l.stage l.scope)) l.best
