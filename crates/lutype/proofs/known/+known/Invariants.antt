use Rattle.std.proofs.Common.{◌↔◌, drop}
use Rattle.lutree.specs.Tree.{views, trees_of, node_view}
use Rattle.lustat_rules.specs.Scope.{IsVariable}
use Rattle.lutype.specs.Forms.{EachNameOf}
use Rattle.lutype.proofs.known.+known.Given as goal

abbrev pub invariant-all_are_known-loop-a : goal.invariant-all_are_known-loop-a
invariant-all_are_known-loop-a l =
    EachNameOf (IsVariable (node_view l.scope)) (trees_of (views (drop l.a-index l.arguments))) ↔ EachNameOf (IsVariable (node_view l.scope)) (trees_of (views l.arguments))
