use Rattle.std.proofs.Common.{◌↔◌, drop}
use Rattle.lutree.specs.Tree.{views, trees_of, node_view, program_view}
use Rattle.lustat_rules.specs.Parts.{EachPartOf}
use Rattle.lutype.specs.PartRules.{PartKeeps}
use Rattle.lutype.proofs.parts.+parts.Given as goal

abbrev pub invariant-all_parts_keep-loop-a : goal.invariant-all_parts_keep-loop-a
invariant-all_parts_keep-loop-a l =
    EachPartOf (PartKeeps (program_view l.catalog) (node_view l.scope) l.rule) (trees_of (views (drop l.a-index l.arguments)))
    ↔ EachPartOf (PartKeeps (program_view l.catalog) (node_view l.scope) l.rule) (trees_of (views l.arguments))
