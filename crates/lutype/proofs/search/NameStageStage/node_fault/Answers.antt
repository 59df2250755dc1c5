use Rattle.std.proofs.Common.{subst}
use Rattle.lutree.specs.declared.program.Node.{Node}
use Rattle.lustat_rules.specs.Faults.{IsJudged, NodeFault, NodeKept}
use Rattle.lutype.specs.Asked.{is_asked}
use Rattle.lutype.proofs.search.NameStageStage.node_fault.Goals as goal

pub returns : goal.returns
returns c =
    let p = c.args.self.now.catalog.now in
    let main = c.args.self.now.main.now in
    subst (λ (n : Node). IsJudged (NodeFault is_asked p main c.args.place n) (NodeKept is_asked p main c.args.place n) c.name_fault.result) c.node.ensures (c.name_fault.ensures main)
