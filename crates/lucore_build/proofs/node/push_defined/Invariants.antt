use Rattle.std.proofs.Common.{◌≡◌, ◌++◌, take}
use Rattle.lutree.specs.Tree.{node_view}
use Rattle.lucore_laws.specs.Layout.{clock_place}
use Rattle.lustat_rules.specs.ClockRefs.{placed_view}
use Rattle.lucore_build.specs.Walks.{root_view}
use Rattle.lucore_build.specs.Nodes.{flows_named}
use Rattle.lucore_build.proofs.node.push_defined.Given as goal

abbrev pub invariant-loop-number : goal.invariant-loop-number
invariant-loop-number l =
    l.defined.items ≡ l.initial.defined.items ++ flows_named (node_view l.scope) (clock_place (node_view l.scope) (placed_view l.clock)) (root_view l.root) 0 (take l.number l.left)
