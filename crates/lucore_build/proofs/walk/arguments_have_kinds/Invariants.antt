use Rattle.std.proofs.Common.{◌≡◌, ◌≤◌, length, drop}
use Rattle.lutree.specs.Tree.{declarations_view}
use Rattle.lustat_rules.specs.Typing.{arguments_fit}
use Rattle.lucore_build.specs.Walks.{kinds_of}
use Rattle.lucore_build.proofs.walk.arguments_have_kinds.Given as goal

abbrev pub invariant-loop-i : goal.invariant-loop-i
invariant-loop-i l =
    record {
      so_far : arguments_fit (kinds_of (drop l.i l.arguments)) (declarations_view (drop l.i l.inputs)) ≡ arguments_fit (kinds_of l.arguments) (declarations_view l.inputs);
      within : l.i ≤ length l.inputs;
    }
