use Rattle.lutree.specs.Tree.{type_view, program_view}
use Rattle.lustat_rules.specs.Accepted.{Rule, TypeKeeps}
use Rattle.lustat_rules.specs.Faults.{TypeFault}
use Rattle.lustat_rules.proofs.Gaining.{gains_none}
use Rattle.lustat_clocks.specs.Asked.{is_asked}
use Rattle.lustat_clocks.proofs.Places.{silent_judged}
use Rattle.lustat_clocks.proofs.survey.ClockStageSurvey.push_type_faults.Goals as goal

pub returns : goal.returns
returns c =
    let p = c.args.self.now.catalog.now in
    let main = c.args.self.now.main.now in
    let t = c.args._declaration.now in
    gains_none (TypeFault is_asked p main c.args._place t) c.args._found.now.items (silent_judged t.byte (λ (rule : Rule). TypeKeeps (program_view p) main rule c.args._place (type_view t)) tt tt tt tt).1
