use Rattle.std.proofs.Common.{◌≡◌, ◌++◌, take}
use Rattle.lutree.specs.Tree.{views, trees_of}
use Rattle.lustat_warn.specs.Scans.{spelled, nodes_in_all}
use Rattle.lustat_warn.proofs.mentions.+calls.Given as goal

abbrev pub invariant-push_all_calls-loop-e : goal.invariant-push_all_calls-loop-e
invariant-push_all_calls-loop-e l = spelled l.names.items ≡ spelled l.fn.names.items ++ nodes_in_all (trees_of (views (take l.e-index l.all)))
