use Rattle.lutree.specs.Tree.{node_view, program_view}
use Rattle.lustat_rules.specs.Accepted.{Rule, NodeKeeps}
use Rattle.lustat_rules.specs.Faults.{NodeFault}
use Rattle.lustat_rules.proofs.Gaining.{gains_none}
use Rattle.lustat_clocks.specs.Asked.{is_asked}
use Rattle.lustat_clocks.proofs.Places.{silent_judged}
use Rattle.lustat_clocks.proofs.survey.ClockStageSurvey.push_node_faults.Goals as goal

pub returns : goal.returns
returns c =
    let p = c.args.self.now.catalog.now in
    let main = c.args.self.now.main.now in
    let n = c.args._scope.now in
    gains_none (NodeFault is_asked p main c.args._place n) c.args._found.now.items (silent_judged n.byte (λ (rule : Rule). NodeKeeps (program_view p) main rule c.args._place (node_view n)) tt tt tt tt).1
