use Rattle.std.proofs.Common.{◌≡◌, ◌++◌, drop}
use Rattle.lutree.specs.Tree.{views, trees_of}
use Rattle.lustat_rules.specs.Clocks.{clocks_in_all}
use Rattle.lustat_init.specs.Judged.{spelled}
use Rattle.lustat_init.proofs.judge.+samplers.Given as goal

abbrev pub invariant-push_samplers_of_all-loop-a : goal.invariant-push_samplers_of_all-loop-a
invariant-push_samplers_of_all-loop-a l =
    spelled l.names.items ++ clocks_in_all (trees_of (views (drop l.a-index l.arguments))) ≡ spelled l.initial.names.items ++ clocks_in_all (trees_of (views l.arguments))
