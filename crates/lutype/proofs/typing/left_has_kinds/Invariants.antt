use Rattle.std.proofs.Common.{◌≡◌, ◌≤◌, map, length, drop}
use Rattle.lutree.specs.Tree.{node_view, declarations_view}
use Rattle.lustat_rules.specs.Scope.{kind_of}
use Rattle.lustat_rules.specs.Typing.{arguments_fit}
use Rattle.lutype.proofs.typing.left_has_kinds.Given as goal

abbrev pub invariant-loop-i : goal.invariant-loop-i
invariant-loop-i l =
    record {
      so_far : arguments_fit (map (kind_of (node_view l.scope)) (drop l.i l.left)) (declarations_view (drop l.i l.outputs)) ≡ arguments_fit (map (kind_of (node_view l.scope)) l.left) (declarations_view l.outputs);
      within : l.i ≤ length l.outputs;
    }
