use Rattle.std.proofs.Common.{◌≡◌, drop}
use Rattle.lutree.specs.Tree.{views, trees_of, node_view}
use Rattle.lustat_clocks.specs.Anchors.{anchor_of_all}
use Rattle.lustat_clocks.proofs.anchor.+anchors.Given as goal

abbrev pub invariant-anchor_of_arguments-loop-a : goal.invariant-anchor_of_arguments-loop-a
invariant-anchor_of_arguments-loop-a l =
    anchor_of_all (node_view l.scope) (trees_of (views (drop l.a-index l.arguments))) ≡ anchor_of_all (node_view l.scope) (trees_of (views l.arguments))
