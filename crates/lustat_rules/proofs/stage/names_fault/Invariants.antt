use Rattle.lustat_rules.specs.Faults.{IsJudged}
use Rattle.lustat_rules.proofs.Judging.{FaultBefore, KeptBefore}
use Rattle.lustat_rules.proofs.stage.names_fault.Given as goal

abbrev pub invariant-loop-j : goal.invariant-loop-j
invariant-loop-j g l =
    IsJudged (FaultBefore l.j l.declaration.names (g.S.Stage.breaks_name l.stage l.place l.declaration)) (KeptBefore l.j l.declaration.names (g.S.Stage.keeps_name l.stage l.place l.declaration)) l.best
