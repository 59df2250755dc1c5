use Rattle.std.proofs.Common.{◌↔◌, drop}
use Rattle.lutree.specs.Tree.{views, trees_of}
use Rattle.lustat_clocks.specs.Named.{EachCallOfAll, IsOther}
use Rattle.lustat_clocks.proofs.parameter.+calls.Given as goal

abbrev pub invariant-all_call_no-loop-a : goal.invariant-all_call_no-loop-a
invariant-all_call_no-loop-a l =
    EachCallOfAll (IsOther l.name) (trees_of (views (drop l.a-index l.arguments))) ↔ EachCallOfAll (IsOther l.name) (trees_of (views l.arguments))
