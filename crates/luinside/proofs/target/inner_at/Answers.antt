use Rattle.std.specs.Prelude.{◌≡◌, ◌<◌, ◌≤◌, ◌-◌, length, map}
use Rattle.std.proofs.Common.{arith, subst, sym, ap, ◌∙◌}
use Rattle.lutree.specs.declared.program.Node.{Node}
use Rattle.lutree.specs.Tree.{view, equation_view, node_view, program_view}
use Rattle.lucore_laws.specs.Sizes.{root_size}
use Rattle.luinside.specs.Owns.{own_size}
use Rattle.luinside.specs.FlowsPassed.{Enters}
use Rattle.luinside.proofs.Sought.{one_passed, inner_found, all_passed}
use Rattle.luinside.proofs.target.inner_at.Goals as goal

pub enter-requires-clause-before : goal.enter-requires-clause-before
enter-requires-clause-before c =
    let are = ap (map equation_view) (sym (c.as_slice-equation-items.ensures ∙ ap (λ (n : Node). n.equations) c.node.ensures)) in
    let passed = c.loop-number.invariant are in
    passed.before

pub returns-in-At : goal.returns-in-At
returns-in-At c =
    let are = ap (map equation_view) (sym (c.as_slice-equation-items.ensures ∙ ap (λ (n : Node). n.equations) c.node.ensures)) in
    let p = program_view c.args.search.now.catalog.now in
    let s = c.args.search.now.counts.now in
    let target = c.args.search.now.target in
    let items = c.as_slice-equation-items.result.now in
    let q = c.equation-item.result in
    let lt : c.loop-number.number < length items = omega (arith, c.loop-number-test.true) in
    let count : c.saturating_sub-count.result ≡ own_size p s (view q.right) - root_size (view q.right) = omega (arith, c.saturating_sub-count.ensures, c.own_count.ensures, c.root.ensures) in
    let entered = subst (Enters p s target c.loop-number.number (view q.right) c.saturating_sub-count.result c.loop-number.here c.loop-number.part.items c.enter.new.part.items) c.in-At.is c.in_ok-behind.ensures in
    inner_found p s (node_view c.args.scope.now) items are target c.loop-number.number c.loop-number.part.items c.enter.new.part.items c.loop-number.here c.in-At.own q c.saturating_sub-count.result lt c.equation-item.is
    (c.loop-number.invariant are) count entered

pub loop-number-preserved : goal.loop-number-preserved
loop-number-preserved c = λ are.
    let p = program_view c.args.search.now.catalog.now in
    let s = c.args.search.now.counts.now in
    let target = c.args.search.now.target in
    let items = c.as_slice-equation-items.result.now in
    let q = c.equation-item.result in
    let lt : c.loop-number.number < length items = omega (arith, c.loop-number-test.true) in
    let count : c.saturating_sub-count.result ≡ own_size p s (view q.right) - root_size (view q.right) = omega (arith, c.saturating_sub-count.ensures, c.own_count.ensures, c.root.ensures) in
    let entered = subst (Enters p s target c.loop-number.number (view q.right) c.saturating_sub-count.result c.loop-number.here c.loop-number.part.items c.enter.new.part.items) c.in-Behind.is c.in_ok-behind.ensures in
    one_passed p s (node_view c.args.scope.now) items are target c.loop-number.number c.loop-number.part.items c.enter.new.part.items c.loop-number.here c.in-Behind.behind q c.saturating_sub-count.result lt c.equation-item.is
    (c.loop-number.invariant are) count entered

pub returns : goal.returns
returns c =
    let are = ap (map equation_view) (sym (c.as_slice-equation-items.ensures ∙ ap (λ (n : Node). n.equations) c.node.ensures)) in
    let items = c.as_slice-equation-items.result.now in
    let le : length items ≤ c.loop-number.number = omega (arith, c.loop-number-test.false) in
    all_passed (program_view c.args.search.now.catalog.now) c.args.search.now.counts.now (node_view c.args.scope.now) items are c.args.search.now.target c.loop-number.number c.loop-number.part.items c.loop-number.here le (c.loop-number.invariant are)
