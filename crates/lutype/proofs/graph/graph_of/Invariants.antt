use Rattle.std.proofs.Common.{◌≡◌, ℕ, map, take}
use Rattle.std.specs.Prelude.{Vec}
use Rattle.std.specs.Global.{Global}
use Rattle.lutree.specs.declared.program.Node.{Node}
use Rattle.lutree.specs.Tree.{node_view, program_view}
use Rattle.lutype.specs.CallGraph.{places_called}
use Rattle.lutype.proofs.graph.graph_of.Given as goal

abbrev pub invariant-loop-node : goal.invariant-loop-node
invariant-loop-node l =
    map (λ (row : Vec ℕ Global). row.items) l.graph.items ≡ map (λ (n : Node). places_called (program_view l.catalog) (node_view n)) (take l.node-index l.nodes)
