use Rattle.std.proofs.Common.{◌≡◌, ◌∙◌, ◌<◌, length, ap, map, List, arith}
use Rattle.lutree.specs.declared.program.Equation.{Equation}
use Rattle.lutree.specs.Tree.{equation_view}
use Rattle.lusyn_parser.specs.Resolved.{resolved_equation}
use Rattle.lusyn_parser.specs.Known.{types_of}
use Rattle.lusyn_parser.proofs.Changed.{changed-next, changed-whole, kept-next, written-back}
use Rattle.lusyn_parser.proofs.trees.resolve_equations.Goals as goal

pub loop-one-preserved : goal.loop-one-preserved
loop-one-preserved c =
    let old = c.deref_mut-one-items.result.now in
    let new = c.loop-one.one-items in
    let i = c.loop-one.one-index in
    let here : i < length old = omega (arith, c.loop-one-test.true, c.loop-one.auto.one-items) in
    let there : i < length new = omega (arith, c.loop-one-test.true, c.loop-one.auto.one-items) in
    record {
      trees = changed-next equation_view (resolved_equation (types_of c.args.labels.now)) old new i c.one-item.result c.resolve_equation.new.defined c.loop-one.invariant.trees here there c.in_ok-resolve_equation.ensures.tree;
      places = kept-next (λ (e : Equation). e.byte) old new i c.one-item.result c.resolve_equation.new.defined c.loop-one.invariant.places there c.in_ok-resolve_equation.ensures.place;
    }

pub returns-clause-trees : goal.returns-clause-trees
returns-clause-trees c =
    let old = c.deref_mut-one-items.result.now in
    let vec = c.into_items-items.result in
    let was : length vec.items ≡ vec.len = omega (arith, vec.ok.0) in
    let value = ap length c.deref_mut-one-items.ensures.value in
    let is : length c.loop-one.one-items ≡ vec.len = omega (arith, was, value, c.loop-one.auto.one-items) in
    let put : c.new.result ≡ c.loop-one.one-items = c.new.ensures ∙ written-back vec.len c.loop-one.one-items vec.items is was in
    let taken : old ≡ c.args.equations = c.deref_mut-one-items.ensures.value ∙ c.into_items-items.ensures in
    ap (map equation_view) put
    ∙ changed-whole equation_view (resolved_equation (types_of c.args.labels.now)) old c.loop-one.one-items c.loop-one.one-index c.loop-one.invariant.trees (omega (arith, c.loop-one-test.false, c.loop-one.auto.one-items))
    ∙ ap (λ (xs : List _). map (resolved_equation (types_of c.args.labels.now)) (map equation_view xs)) taken
