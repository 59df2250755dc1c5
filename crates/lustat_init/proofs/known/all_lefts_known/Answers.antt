use Rattle.std.proofs.Common.{◌↔◌, IsTrue, List, All, subst}
use Rattle.std.proofs.lemmas.List.Elements.{All-map}
use Rattle.lutree.specs.declared.program.Node.{Node}
use Rattle.lutree.specs.Tree.{node_view}
use Rattle.lustat_init.specs.Assigned.{LeftsKnown}
use Rattle.lustat_init.proofs.Rowing.{all_of_views}
use Rattle.lustat_init.proofs.known.all_lefts_known.Goals as goal

pub returns : goal.returns
returns c =
    let nodes : List Node = c.args.catalog.now.nodes in
    let known = subst (λ ns. IsTrue c.scopes_known.result ↔ All (λ (n : Node). LeftsKnown (node_view n)) ns) c.scopes.ensures c.scopes_known.ensures in
    (λ h. All-map LeftsKnown node_view nodes (known.0 h), λ h. known.1 (all_of_views LeftsKnown nodes h))
