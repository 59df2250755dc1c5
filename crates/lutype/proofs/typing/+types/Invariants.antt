use Rattle.std.proofs.Common.{◌≡◌, ◌≤◌, length, take, drop}
use Rattle.lutree.specs.Tree.{views, trees_of, node_view, program_view, declarations_view}
use Rattle.lustat_rules.specs.Typing.{types_of, agreed_all, arguments_fit}
use Rattle.lutype.proofs.typing.+types.Given as goal

abbrev pub invariant-arguments_have_kinds-loop-i : goal.invariant-arguments_have_kinds-loop-i
invariant-arguments_have_kinds-loop-i l =
    record {
      so_far : arguments_fit (types_of (program_view l.catalog) (node_view l.scope) (trees_of (views (drop l.i l.arguments)))) (declarations_view (drop l.i l.inputs)) ≡ arguments_fit (types_of (program_view l.catalog) (node_view l.scope) (trees_of (views l.arguments))) (declarations_view l.inputs);
      within : l.i ≤ length l.inputs;
    }

abbrev pub invariant-kind_of_branches-loop-i : goal.invariant-kind_of_branches-loop-i
invariant-kind_of_branches-loop-i l = l.all ≡ agreed_all (types_of (program_view l.catalog) (node_view l.scope) (trees_of (views (take l.i l.branches))))
