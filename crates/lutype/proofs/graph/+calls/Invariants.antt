use Rattle.std.proofs.Common.{◌≡◌, ◌++◌, take}
use Rattle.std.specs.List.{filter_map}
use Rattle.lutree.specs.Tree.{views, trees_of, program_view}
use Rattle.lustat_rules.specs.Naming.{node_place}
use Rattle.lutype.specs.CallGraph.{all_names_called}
use Rattle.lutype.proofs.graph.+calls.Given as goal

abbrev pub invariant-push_all_calls-loop-a : goal.invariant-push_all_calls-loop-a
invariant-push_all_calls-loop-a l =
    l.row.items ≡ l.fn.row.items ++ filter_map (node_place (program_view l.catalog)) (all_names_called (trees_of (views (take l.a-index l.arguments))))
