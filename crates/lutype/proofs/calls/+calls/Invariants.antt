use Rattle.std.proofs.Common.{◌↔◌, drop}
use Rattle.lutree.specs.Tree.{views, trees_of, program_view}
use Rattle.lutype.specs.Forms.{EachCallOf}
use Rattle.lutype.specs.CallRules.{CallKeeps}
use Rattle.lutype.proofs.calls.+calls.Given as goal

abbrev pub invariant-all_calls_keep-loop-a : goal.invariant-all_calls_keep-loop-a
invariant-all_calls_keep-loop-a l =
    EachCallOf (CallKeeps (program_view l.catalog) l.rule) (trees_of (views (drop l.a-index l.arguments))) ↔ EachCallOf (CallKeeps (program_view l.catalog) l.rule) (trees_of (views l.arguments))
