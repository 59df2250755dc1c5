use Rattle.lutree.specs.Tree.{node_view, program_view}
use Rattle.lustat_rules.specs.Accepted.{Rule, NodeKeeps}
use Rattle.lustat_clocks.proofs.Places.{silent_judged}
use Rattle.lustat_clocks.proofs.search.ClockStageStage.node_fault.Goals as goal

pub returns : goal.returns
returns c =
    let s = c.args.self.now in
    let n = c.args._scope.now in
    silent_judged n.byte (λ (rule : Rule). NodeKeeps (program_view s.catalog.now) s.main.now rule c.args._place (node_view n)) tt tt tt tt
