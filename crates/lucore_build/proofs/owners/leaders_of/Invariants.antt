use Rattle.std.proofs.Common.{◌≡◌, map, take}
use Rattle.lutree.specs.Tree.{equation_view, node_view}
use Rattle.lucore_build.specs.Nodes.{leaders}
use Rattle.lucore_build.proofs.owners.leaders_of.Given as goal

abbrev pub invariant-loop-equation : goal.invariant-loop-equation
invariant-loop-equation l = l.owners.items ≡ leaders (node_view l.scope) (map equation_view (take l.equation-index l.equations))
