use Rattle.std.proofs.Common.{List, Bool, All, length, sym, subst}
use Rattle.std.specs.Prelude.{Vec}
use Rattle.std.specs.Global.{Global}
use Rattle.lutree.specs.declared.program.Node.{Node}
use Rattle.lutree.specs.Tree.{node_view}
use Rattle.lustat_init.specs.Assigned.{LeftsKnown}
use Rattle.lustat_init.specs.Rows.{plain, GiveLeastBelow}
use Rattle.lustat_init.proofs.Rowing.{all_of_views}
use Rattle.lustat_init.proofs.survey.all_class_faults.Goals as goal

pub rows_of-requires : goal.rows_of-requires
rows_of-requires c =
    subst (λ (ns : List Node). All (λ (n : Node). LeftsKnown (node_view n)) ns) (sym c.scopes.ensures) (all_of_views LeftsKnown c.args.catalog.now.nodes c.requires)

pub all_of_nodes-requires : goal.all_of_nodes-requires
all_of_nodes-requires c =
    let nodes : List Node = c.args.catalog.now.nodes in
    let least = subst (λ (ns : List Node). GiveLeastBelow (length ns) ns (plain c.in_ok-rows.rows.items)) c.scopes.ensures c.in_ok-rows.ensures in
    subst (λ (rs : List (Vec Bool Global)). GiveLeastBelow (length nodes) nodes (plain rs)) (sym c.deref.ensures.value) least
