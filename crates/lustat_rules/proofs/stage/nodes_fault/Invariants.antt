use Rattle.lustat_rules.specs.Faults.{IsJudged}
use Rattle.lustat_rules.proofs.Judging.{FaultBefore, KeptBefore}
use Rattle.lustat_rules.specs.Stages.{BrokenInside, KeptInside}
use Rattle.lustat_rules.proofs.stage.nodes_fault.Given as goal

abbrev pub invariant-loop-i : goal.invariant-loop-i
invariant-loop-i g l =
    IsJudged (FaultBefore l.i l.scopes (BrokenInside (g.S.Stage.breaks_node l.stage) (g.S.Stage.breaks_declaration l.stage) (g.S.Stage.breaks_equation l.stage)))
    (KeptBefore l.i l.scopes (KeptInside (g.S.Stage.keeps_node l.stage) (g.S.Stage.keeps_declaration l.stage) (g.S.Stage.keeps_equation l.stage))) l.best
