use Rattle.lustat_rules.specs.Faults.{IsJudged}
use Rattle.lustat_rules.proofs.Judging.{FaultBefore, KeptBefore}
use Rattle.lustat_rules.specs.Stages.{BrokenInType, KeptInType}
use Rattle.lustat_rules.proofs.stage.types_fault.Given as goal

abbrev pub invariant-loop-i : goal.invariant-loop-i
invariant-loop-i g l =
    IsJudged (FaultBefore l.i l.types (BrokenInType (g.S.Stage.breaks_type l.stage) (g.S.Stage.breaks_name l.stage)))
    (KeptBefore l.i l.types (KeptInType (g.S.Stage.keeps_type l.stage) (g.S.Stage.keeps_name l.stage))) l.best
