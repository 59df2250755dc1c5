use Rattle.lutree.specs.Tree.{type_view, program_view}
use Rattle.lustat_rules.specs.Accepted.{Rule, NameKeeps}
use Rattle.lustat_clocks.proofs.Places.{silent_judged}
use Rattle.lustat_clocks.proofs.search.ClockStageStage.name_fault.Goals as goal

pub returns : goal.returns
returns c =
    let s = c.args.self.now in
    let t = c.args._declaration.now in
    let x = c.args._name.now in
    silent_judged x.byte (λ (rule : Rule). NameKeeps (program_view s.catalog.now) s.main.now rule c.args._place (type_view t) c.args._number x.name) tt tt tt tt
