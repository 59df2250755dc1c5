use Rattle.std.specs.Prelude.{◌≡◌, ◌<◌, ◌≤◌, ◌+◌, ◌-◌, length, map}
use Rattle.std.proofs.Common.{Bor, arith, refl, sym, ap, ◌∙◌}
use Rattle.std.proofs.lemmas.List.{length-map}
use Rattle.lutree.specs.declared.program.Declaration.{Declaration}
use Rattle.lutree.specs.declared.program.Node.{Node}
use Rattle.lutree.specs.Tree.{view, equation_view, node_view, program_view}
use Rattle.lucore_laws.specs.Sizes.{root_size, made_size}
use Rattle.luinside.specs.declared.passing.Own.{Own}
use Rattle.luinside.proofs.Sought.{declared_long, none_skipped, one_skipped, root_found, all_skipped}
use Rattle.luinside.proofs.target.root_at.Goals as goal

pub loop-number-init : goal.loop-number-init
loop-number-init c = λ are.
    let items = c.declarations-place.result.now in
    let long = sym (length-map items (λ (d : Bor Declaration). d.now)) ∙ declared_long c.args.scope.now (map (λ (d : Bor Declaration). d.now) items) c.declarations-place.ensures in
    none_skipped (program_view c.args.search.now.catalog.now) c.args.search.now.counts.now (node_view c.args.scope.now) c.as_slice-equation-items.result.now are c.args.name.now c.args.part.now.items (length items) c.requires long

pub returns-then-defines : goal.returns-then-defines
returns-then-defines c =
    let are = ap (map equation_view) (sym (c.as_slice-equation-items.ensures ∙ ap (λ (n : Node). n.equations) c.node.ensures)) in
    let p = program_view c.args.search.now.catalog.now in
    let s = c.args.search.now.counts.now in
    let items = c.as_slice-equation-items.result.now in
    let q = c.equation-item.result in
    let lt : c.loop-number.number < length items = omega (arith, c.loop-number-test.true) in
    let x : Own = record { expression = record { ref_ptr = c.args.search.ref_ptr; now = q.right }; here = record { place = c.in_ok-behind.behind; calls = 0 } } in
    let next : c.in_ok-behind.behind ≡ c.loop-number.place + (made_size p s (view q.right) - root_size (view q.right)) = omega (arith, c.in_ok-behind.ensures, c.saturating_sub.ensures, c.in_ok-made.ensures, c.root.ensures) in
    root_found p s (node_view c.args.scope.now) items are c.args.name.now c.loop-number.number c.loop-number.part.items c.push.new.self.items c.loop-number.place x q lt c.equation-item.is
    (c.loop-number.invariant are) next refl (sym c.if-defines.ensures) c.in_ok-push.ensures.items

pub loop-number-preserved : goal.loop-number-preserved
loop-number-preserved c = λ are.
    let p = program_view c.args.search.now.catalog.now in
    let s = c.args.search.now.counts.now in
    let items = c.as_slice-equation-items.result.now in
    let q = c.equation-item.result in
    let lt : c.loop-number.number < length items = omega (arith, c.loop-number-test.true) in
    let next : c.in_ok-behind.behind ≡ c.loop-number.place + (made_size p s (view q.right) - root_size (view q.right)) = omega (arith, c.in_ok-behind.ensures, c.saturating_sub.ensures, c.in_ok-made.ensures, c.root.ensures) in
    one_skipped p s (node_view c.args.scope.now) items are c.args.name.now c.loop-number.number c.loop-number.part.items c.loop-number.place c.in_ok-behind.behind q lt c.equation-item.is
    (c.loop-number.invariant are) next (sym c.if-defines.ensures)

pub returns : goal.returns
returns c =
    let are = ap (map equation_view) (sym (c.as_slice-equation-items.ensures ∙ ap (λ (n : Node). n.equations) c.node.ensures)) in
    let items = c.as_slice-equation-items.result.now in
    let le : length items ≤ c.loop-number.number = omega (arith, c.loop-number-test.false) in
    all_skipped (program_view c.args.search.now.catalog.now) c.args.search.now.counts.now (node_view c.args.scope.now) items are c.args.name.now c.loop-number.number c.loop-number.part.items c.loop-number.place le (c.loop-number.invariant are)
