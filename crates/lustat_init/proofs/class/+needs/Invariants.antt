use Rattle.std.proofs.Common.{◌↔◌, drop}
use Rattle.lutree.specs.Tree.{views, trees_of, node_view}
use Rattle.lustat_rules.specs.Classes.{AllReady}
use Rattle.lustat_init.specs.Assigned.{assigned}
use Rattle.lustat_init.proofs.class.+needs.Given as goal

abbrev pub invariant-all_ready-loop-a : goal.invariant-all_ready-loop-a
invariant-all_ready-loop-a l =
    AllReady (assigned (node_view l.scope) l.marks) (trees_of (views (drop l.a-index l.arguments))) ↔ AllReady (assigned (node_view l.scope) l.marks) (trees_of (views l.arguments))
