use Rattle.std.proofs.Common.{◌≡◌, take}
use Rattle.lutree.specs.Tree.{views, trees_of, node_view, program_view}
use Rattle.lustat_rules.specs.Typing.{types_of}
use Rattle.lustat_rules.specs.ClockRefs.{placed_view}
use Rattle.lucore_build.specs.Walks.{plain, kinds_of}
use Rattle.lucore_build.specs.Operands.{places_of}
use Rattle.lucore_build.proofs.Forms.{AreMade, BranchesAreMade}
use Rattle.lucore_build.proofs.walk.+walk.Given as goal

abbrev pub invariant-call-loop-a : goal.invariant-call-loop-a
invariant-call-loop-a l =
    record {
      made : AreMade (program_view l.context.catalog.now) (plain l.context.lists.now) (node_view l.context.scope.now) (trees_of (views (take l.a-index l.arguments))) (placed_view l.clock) l.initial.flows.items l.flows.items (places_of l.operands.items);
      kinds : kinds_of l.operands.items ≡ types_of (program_view l.context.catalog.now) (node_view l.context.scope.now) (trees_of (views (take l.a-index l.arguments)));
    }

abbrev pub invariant-merge-loop-i : goal.invariant-merge-loop-i
invariant-merge-loop-i l =
    record {
      made : BranchesAreMade (program_view l.context.catalog.now) (plain l.context.lists.now) (node_view l.context.scope.now) l.name l.patterns (trees_of (views (take l.i l.branches))) l.initial.flows.items l.flows.items (places_of l.operands.items);
      kinds : kinds_of l.operands.items ≡ types_of (program_view l.context.catalog.now) (node_view l.context.scope.now) (trees_of (views (take l.i l.branches)));
    }
