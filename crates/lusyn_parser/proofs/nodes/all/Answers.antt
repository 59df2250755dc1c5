use Rattle.std.proofs.Common.{map}
use Rattle.lutree.specs.Places.{type_places, node_places}
use Rattle.lusyn_parser.proofs.PlacingNodes.{all_places}
use Rattle.lusyn_parser.proofs.nodes.all.Goals as goal

pub returns-in-None-clause-places : goal.returns-in-None-clause-places
returns-in-None-clause-places c =
    rw (c.new.ensures, c.new-in-None.ensures) (all_places c.args.tokens.now c.in_ok-types.next c.in_ok-nodes.next (map type_places c.in_ok-types.types.items) (map node_places c.in_ok-nodes.nodes.items)
    c.in_ok-types.ensures.places c.in_ok-nodes.ensures.places c.in-None.ensures)
