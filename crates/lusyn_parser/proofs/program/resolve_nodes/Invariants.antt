use Rattle.std.proofs.Common.{◌≡◌, map}
use Rattle.lutree.specs.Tree.{node_view}
use Rattle.lutree.specs.Places.{node_places}
use Rattle.lusyn_parser.specs.Resolved.{resolved_node}
use Rattle.lusyn_parser.specs.Known.{types_of}
use Rattle.lusyn_parser.proofs.Changed.{changed}
use Rattle.lusyn_parser.proofs.program.resolve_nodes.Given as goal

abbrev pub invariant-loop-node : goal.invariant-loop-node
invariant-loop-node l = record {
  trees : map node_view l.node-items ≡ changed (resolved_node (types_of l.labels)) l.node-index (map node_view l.initial.node-items);
  places : map node_places l.node-items ≡ map node_places l.initial.node-items;
}
