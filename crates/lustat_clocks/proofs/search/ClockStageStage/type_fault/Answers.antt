use Rattle.lutree.specs.Tree.{type_view, program_view}
use Rattle.lustat_rules.specs.Accepted.{Rule, TypeKeeps}
use Rattle.lustat_clocks.proofs.Places.{silent_judged}
use Rattle.lustat_clocks.proofs.search.ClockStageStage.type_fault.Goals as goal

pub returns : goal.returns
returns c =
    let s = c.args.self.now in
    let t = c.args._declaration.now in
    silent_judged t.byte (λ (rule : Rule). TypeKeeps (program_view s.catalog.now) s.main.now rule c.args._place (type_view t)) tt tt tt tt
