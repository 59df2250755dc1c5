use Rattle.std.proofs.Common.{◌≡◌, map}
use Rattle.lutree.specs.Tree.{equation_view}
use Rattle.lutree.specs.Places.{equation_places}
use Rattle.lusyn_parser.specs.Resolved.{resolved_equation}
use Rattle.lusyn_parser.specs.Known.{types_of}
use Rattle.lusyn_parser.proofs.Changed.{changed}
use Rattle.lusyn_parser.proofs.trees.resolve_equations.Given as goal

abbrev pub invariant-loop-one : goal.invariant-loop-one
invariant-loop-one l = record {
  trees : map equation_view l.one-items ≡ changed (resolved_equation (types_of l.labels)) l.one-index (map equation_view l.initial.one-items);
  places : equation_places l.one-items ≡ equation_places l.initial.one-items;
}
