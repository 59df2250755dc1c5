use Rattle.std.specs.Prelude.{◌≡◌, ◌<◌, ◌≤◌, Some, length, map, option_map, slice_get, get_or}
use Rattle.std.proofs.Common.{arith, refl, sym, ap, subst, ◌∙◌}
use Rattle.std.proofs.lemmas.List.{length-map, take_all}
use Rattle.std.proofs.lemmas.Option.{slice_get-get_or, slice_get-map, slice_get_read}
use Rattle.lutree.specs.declared.program.Program.{Program}
use Rattle.lutree.specs.Tree.{node_view, program_view}
use Rattle.lustat_rules.specs.Naming.{IsCallOrder}
use Rattle.lustat_rules.specs.Accepted.{Rule}
use Rattle.lucore_laws.specs.Sizes.{node_size}
use Rattle.lucore_laws.proofs.There.{sizes_law}
use Rattle.lucore_build.specs.Counted.{capped}
use Rattle.lucore_build.proofs.Counting.{until_past, until_more, until_all}
use Rattle.lucore_build.proofs.nodes.sizes.Goals as goal

pub loop-place-preserved-then-place-nodes : goal.loop-place-preserved-then-place-nodes
loop-place-preserved-then-place-nodes c =
    let p = program_view c.args.program.now.program in
    let order = c.order-place-items.result.now in
    let k = c.loop-place.place-index in
    let i = get_or order k 0 in
    let lt : k < length order = omega arith in
    let nodes = c.as_slice-nodes.result.now in
    let same : nodes ≡ c.args.program.now.program.nodes = c.as_slice-nodes.ensures ∙ ap (λ (x : Program). x.nodes) (c.program.ensures ∙ c.catalog-catalog.ensures.catalog) in
    let long : length p.nodes ≡ length nodes = length-map c.args.program.now.program.nodes node_view ∙ ap length (sym same) in
    let past : length p.nodes ≤ i = (let t = c.if-place-nodes.true in omega (arith, t, long)) in
    until_past p order k i c.loop-place.counts.items c.loop-place.invariant (slice_get-get_or order k 0 lt) past

pub loop-place-preserved : goal.loop-place-preserved
loop-place-preserved c =
    let p = program_view c.args.program.now.program in
    let order = c.order-place-items.result.now in
    let k = c.loop-place.place-index in
    let i = get_or order k 0 in
    let lt : k < length order = omega arith in
    let nodes = c.as_slice-nodes.result.now in
    let counts = c.loop-place.counts.items in
    let same : nodes ≡ c.args.program.now.program.nodes = c.as_slice-nodes.ensures ∙ ap (λ (x : Program). x.nodes) (c.program.ensures ∙ c.catalog-catalog.ensures.catalog) in
    let inside : i < length nodes = (let f = c.if-place-nodes.false in omega (arith, f)) in
    let node = c.index-nodes-place.result in
    let n = node_view node in
    let here = slice_get_read nodes (length nodes) i node refl inside c.index-nodes-place.is in
    let there : slice_get p.nodes i ≡ Some n = ap (λ ns. slice_get (map node_view ns) i) (sym same) ∙ slice_get-map node_view nodes i ∙ ap (option_map node_view) here in
    let calls : IsCallOrder p order = subst (IsCallOrder p) (sym c.order-place-items.ensures.order) c.order-place-items.ensures.calls in
    let is = c.node_count-count.ensures ∙ ap (λ (g : Program). capped (node_size (program_view g) c.as_slice.result.now n)) c.catalog-catalog.ensures.catalog
    ∙ ap (λ cs. capped (node_size p cs n)) c.as_slice.ensures.value in
    until_more p order k i c.node_count-count.result counts n calls c.loop-place.invariant (slice_get-get_or order k 0 lt) there is

pub returns-clause-counted : goal.returns-clause-counted
returns-clause-counted c =
    let p = program_view c.args.program.now.program in
    let order = c.order-place-items.result.now in
    let calls : IsCallOrder p order = subst (IsCallOrder p) (sym c.order-place-items.ensures.order) c.order-place-items.ensures.calls in
    let has = sizes_law p c.args.program.now.main (c.catalog-catalog.ensures.accepted Rule.recursive_node) in
    (has.0, has.1, until_all p order c.loop-place.counts.items calls c.loop-place.place-index (take_all c.loop-place.place-index order (omega arith)) c.loop-place.invariant has.0 has.1)
