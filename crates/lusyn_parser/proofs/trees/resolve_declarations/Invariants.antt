use Rattle.std.proofs.Common.{◌≡◌}
use Rattle.lutree.specs.Tree.{declarations_view}
use Rattle.lutree.specs.Places.{declaration_places}
use Rattle.lusyn_parser.specs.Resolved.{resolved_declaration}
use Rattle.lusyn_parser.specs.Known.{types_of}
use Rattle.lusyn_parser.proofs.Changed.{changed}
use Rattle.lusyn_parser.proofs.trees.resolve_declarations.Given as goal

abbrev pub invariant-loop-one : goal.invariant-loop-one
invariant-loop-one l = record {
  trees : declarations_view l.one-items ≡ changed (resolved_declaration (types_of l.labels)) l.one-index (declarations_view l.initial.one-items);
  places : declaration_places l.one-items ≡ declaration_places l.initial.one-items;
}
