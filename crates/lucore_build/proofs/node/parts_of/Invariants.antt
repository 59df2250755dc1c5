use Rattle.std.proofs.Common.{map, take}
use Rattle.lutree.specs.Tree.{equation_view, node_view, program_view}
use Rattle.lucore_build.specs.Walks.{plain}
use Rattle.lucore_build.proofs.Gather.{Made}
use Rattle.lucore_build.proofs.node.parts_of.Given as goal

abbrev pub invariant-loop-equation : goal.invariant-loop-equation
invariant-loop-equation l =
    Made (program_view l.context.catalog.now) (plain l.context.lists.now) (node_view l.context.scope.now) (map equation_view (take l.equation-index l.equation-items)) l.parts.flows.items l.parts.owners.items l.parts.defined.items
