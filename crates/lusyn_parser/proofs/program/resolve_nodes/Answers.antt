use Rattle.std.proofs.Common.{◌≡◌, ◌∙◌, ◌<◌, length, ap, map, List, arith}
use Rattle.lutree.specs.Tree.{node_view}
use Rattle.lutree.specs.Places.{node_places}
use Rattle.lusyn_parser.specs.Resolved.{resolved_node}
use Rattle.lusyn_parser.specs.Known.{types_of}
use Rattle.lusyn_parser.proofs.Changed.{changed-next, changed-whole, kept-next, written-back}
use Rattle.lusyn_parser.proofs.program.resolve_nodes.Goals as goal

pub loop-node-preserved : goal.loop-node-preserved
loop-node-preserved c =
    let old = c.deref_mut-node-items.result.now in
    let new = c.loop-node.node-items in
    let i = c.loop-node.node-index in
    let here : i < length old = omega (arith, c.loop-node-test.true, c.loop-node.auto.node-items) in
    let there : i < length new = omega (arith, c.loop-node-test.true, c.loop-node.auto.node-items) in
    record {
      trees = changed-next node_view (resolved_node (types_of c.args.labels.now)) old new i c.node-item.result c.resolve_node.new.node c.loop-node.invariant.trees here there c.in_ok-resolve_node.ensures.tree;
      places = kept-next node_places old new i c.node-item.result c.resolve_node.new.node c.loop-node.invariant.places there c.in_ok-resolve_node.ensures.places;
    }

pub returns-clause-trees : goal.returns-clause-trees
returns-clause-trees c =
    let old = c.deref_mut-node-items.result.now in
    let vec = c.into_items-items.result in
    let was : length vec.items ≡ vec.len = omega (arith, vec.ok.0) in
    let value = ap length c.deref_mut-node-items.ensures.value in
    let is : length c.loop-node.node-items ≡ vec.len = omega (arith, was, value, c.loop-node.auto.node-items) in
    let put : c.new.result ≡ c.loop-node.node-items = c.new.ensures ∙ written-back vec.len c.loop-node.node-items vec.items is was in
    let taken : old ≡ c.args.nodes = c.deref_mut-node-items.ensures.value ∙ c.into_items-items.ensures in
    ap (map node_view) put
    ∙ changed-whole node_view (resolved_node (types_of c.args.labels.now)) old c.loop-node.node-items c.loop-node.node-index c.loop-node.invariant.trees (omega (arith, c.loop-node-test.false, c.loop-node.auto.node-items))
    ∙ ap (λ (xs : List _). map (resolved_node (types_of c.args.labels.now)) (map node_view xs)) taken
