use Rattle.std.proofs.Common.{◌∙◌, ap}
use Rattle.lutree.specs.Tree.{program_view}
use Rattle.lustat_rules.specs.Naming.{node_place}
use Rattle.lutype.proofs.Standing.{node_is_new}
use Rattle.lutype.proofs.faults.is_new_node.Goals as goal

pub returns : goal.returns
returns c =
    node_is_new c.args.catalog.now c.args.place c.args.node.now c.place.result c.is_at.result c.requires
    (c.place.ensures ∙ ap (node_place (program_view c.args.catalog.now)) c.as_str.ensures)
    c.is_at.ensures
