use Rattle.std.proofs.Common.{◌↔◌, drop}
use Rattle.lutree.specs.Tree.{views, trees_of, node_view}
use Rattle.lustat_init.specs.Currents.{EachCurrentOfAll, IsStarted}
use Rattle.lustat_init.proofs.current.Firsts.+currents.Given as goal

abbrev pub invariant-arguments_start-loop-a : goal.invariant-arguments_start-loop-a
invariant-arguments_start-loop-a l =
    EachCurrentOfAll (IsStarted (node_view l.self)) (trees_of (views (drop l.a-index l.arguments))) ↔ EachCurrentOfAll (IsStarted (node_view l.self)) (trees_of (views l.arguments))
