use Rattle.std.specs.Prelude.{◌≡◌, map}
use Rattle.std.proofs.Common.{arith, ap, ◌∙◌, take}
use Rattle.std.proofs.lemmas.List.{take_all}
use Rattle.lutree.specs.declared.program.Node.{Node}
use Rattle.lutree.specs.declared.program.Program.{Program}
use Rattle.lutree.specs.Tree.{node_view, program_view}
use Rattle.lutype.specs.CallGraph.{places_called}
use Rattle.lutype.proofs.CallsPushed.{rows_viewed}
use Rattle.lutype.proofs.graph.graph_of.Goals as goal

pub returns : goal.returns
returns c =
    let p = program_view c.args.catalog.now in
    let whole : take c.loop-node.node-index c.as_slice-nodes.result.now ≡ c.args.catalog.now.nodes =
    take_all c.loop-node.node-index c.as_slice-nodes.result.now (omega arith) ∙ c.as_slice-nodes.ensures ∙ ap (λ (x : Program). x.nodes) c.program.ensures in
    c.loop-node.invariant ∙ ap (λ ns. map (λ (n : Node). places_called p (node_view n)) ns) whole ∙ rows_viewed p c.args.catalog.now.nodes
