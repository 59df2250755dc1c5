use Rattle.lustat_rules.proofs.Judging.{FaultBefore}
use Rattle.lustat_rules.specs.Stages.{BrokenInType}
use Rattle.lustat_rules.specs.AllFaults.{Gains}
use Rattle.lustat_rules.proofs.survey.push_of_types.Given as goal

abbrev pub invariant-loop-i : goal.invariant-loop-i
invariant-loop-i g l =
    Gains (FaultBefore l.i l.types (BrokenInType (g.S.Stage.breaks_type l.survey) (g.S.Stage.breaks_name l.survey))) l.initial.found.items l.found.items
