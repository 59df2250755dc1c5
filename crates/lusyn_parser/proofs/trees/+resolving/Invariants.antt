use Rattle.std.proofs.Common.{◌≡◌, map}
use Rattle.lutree.specs.Tree.{view}
use Rattle.lusyn_parser.specs.Resolved.{resolved_tree}
use Rattle.lusyn_parser.specs.Known.{types_of}
use Rattle.lusyn_parser.proofs.Changed.{changed}
use Rattle.lusyn_parser.proofs.trees.+resolving.Given as goal

abbrev pub invariant-resolve_all-loop-i : goal.invariant-resolve_all-loop-i
invariant-resolve_all-loop-i l = record {
  trees : map view l.es.items ≡ changed (resolved_tree (types_of l.labels)) l.i (map view l.initial.es.items);
  unvisited : goal.unvisited-resolve_all-loop-i l;
}
