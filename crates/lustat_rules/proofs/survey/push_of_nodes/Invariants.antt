use Rattle.lustat_rules.proofs.Judging.{FaultBefore}
use Rattle.lustat_rules.specs.Stages.{BrokenInside}
use Rattle.lustat_rules.specs.AllFaults.{Gains}
use Rattle.lustat_rules.proofs.survey.push_of_nodes.Given as goal

abbrev pub invariant-loop-i : goal.invariant-loop-i
invariant-loop-i g l =
    Gains (FaultBefore l.i l.scopes (BrokenInside (g.S.Stage.breaks_node l.survey) (g.S.Stage.breaks_declaration l.survey) (g.S.Stage.breaks_equation l.survey))) l.initial.found.items l.found.items
