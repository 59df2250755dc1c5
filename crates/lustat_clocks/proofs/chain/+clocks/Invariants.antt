use Rattle.std.proofs.Common.{◌↔◌, drop}
use Rattle.lutree.specs.Tree.{views, trees_of, node_view}
use Rattle.lustat_rules.specs.Parts.{EachPartOf}
use Rattle.lustat_rules.specs.Clocks.{NamesClocks}
use Rattle.lustat_clocks.proofs.chain.+clocks.Given as goal

abbrev pub invariant-all_name_clocks-loop-a : goal.invariant-all_name_clocks-loop-a
invariant-all_name_clocks-loop-a l =
    EachPartOf (NamesClocks (node_view l.scope)) (trees_of (views (drop l.a-index l.arguments))) ↔ EachPartOf (NamesClocks (node_view l.scope)) (trees_of (views l.arguments))
