use Rattle.std.proofs.Common.{◌≡◌, ◌∙◌, ◌<◌, length, ap, map, List, arith}
use Rattle.lutree.specs.declared.program.Declaration.{Declaration}
use Rattle.lutree.specs.Tree.{declaration_view}
use Rattle.lusyn_parser.specs.Resolved.{resolved_declaration}
use Rattle.lusyn_parser.specs.Known.{types_of}
use Rattle.lusyn_parser.proofs.Changed.{changed-next, changed-whole, kept-next, written-back}
use Rattle.lusyn_parser.proofs.trees.resolve_declarations.Goals as goal

pub loop-one-preserved : goal.loop-one-preserved
loop-one-preserved c =
    let old = c.deref_mut-one-items.result.now in
    let new = c.loop-one.one-items in
    let i = c.loop-one.one-index in
    let here : i < length old = omega (arith, c.loop-one-test.true, c.loop-one.auto.one-items) in
    let there : i < length new = omega (arith, c.loop-one-test.true, c.loop-one.auto.one-items) in
    record {
      trees = changed-next declaration_view (resolved_declaration (types_of c.args.labels.now)) old new i c.one-item.result c.resolve_declaration.new.declared c.loop-one.invariant.trees here there c.resolve_declaration.ensures.tree;
      places = kept-next (λ (d : Declaration). d.byte) old new i c.one-item.result c.resolve_declaration.new.declared c.loop-one.invariant.places there c.resolve_declaration.ensures.place;
    }

pub returns-clause-trees : goal.returns-clause-trees
returns-clause-trees c =
    let old = c.deref_mut-one-items.result.now in
    let vec = c.into_items-items.result in
    let was : length vec.items ≡ vec.len = omega (arith, vec.ok.0) in
    let value = ap length c.deref_mut-one-items.ensures.value in
    let is : length c.loop-one.one-items ≡ vec.len = omega (arith, was, value, c.loop-one.auto.one-items) in
    let put : c.new.result ≡ c.loop-one.one-items = c.new.ensures ∙ written-back vec.len c.loop-one.one-items vec.items is was in
    let taken : old ≡ c.args.declared = c.deref_mut-one-items.ensures.value ∙ c.into_items-items.ensures in
    ap (map declaration_view) put
    ∙ changed-whole declaration_view (resolved_declaration (types_of c.args.labels.now)) old c.loop-one.one-items c.loop-one.one-index c.loop-one.invariant.trees (omega (arith, c.loop-one-test.false, c.loop-one.auto.one-items))
    ∙ ap (λ (xs : List _). map (resolved_declaration (types_of c.args.labels.now)) (map declaration_view xs)) taken
