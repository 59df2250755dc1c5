use Rattle.std.specs.Prelude.{◌<◌, ◌+◌, length}
use Rattle.std.proofs.Common.{arith, ap, ◌∙◌}
use Rattle.lutree.specs.Tree.{view, program_view}
use Rattle.lutree.specs.Tree as tree
use Rattle.lucore_laws.specs.Sizes.{made_size}
use Rattle.lucore_build.specs.Counted.{capped, further}
use Rattle.lucore_build.proofs.Capped.{capped_left, summed}
use Rattle.lutree.proofs.Views.{viewed-Binary, viewed-If}
use Rattle.lucore_build.proofs.Formed.{rooted, operand, inner_of, argument_counted}
use Rattle.lucore_build.proofs.count.+made.Goals as goal

pub all_made-loop-a-preserved : goal.all_made-loop-a-preserved
all_made-loop-a-preserved t c =
    let p = program_view c.args.catalog.now in
    let s = c.args.counts.now in
    let lt : c.loop-a.a-index < length c.args.arguments.now = omega arith in
    argument_counted p s c.args.arguments.now c.loop-a.a-index c.a-item.result c.loop-a.count c.with_root-made.result c.capped_sum-count.result lt c.a-item.is c.loop-a.invariant
    (rooted p s (view c.a-item.result) c.inner.result c.with_root-made.result c.inner.ensures c.with_root-made.ensures) c.capped_sum-count.ensures

pub inner-returns-in-Binary : goal.inner-returns-in-Binary
inner-returns-in-Binary t c =
    let p = program_view c.args.catalog.now in
    let s = c.args.counts.now in
    let op = c.in-Binary.op in
    let a = c.in-Binary.a in
    let b = c.in-Binary.b in
    let left = operand p s a.value c.deref.result.now c.deref-in-Binary.result.now c.inner.result c.with_root-left.result
    c.deref.ensures c.deref-in-Binary.ensures c.inner.ensures c.with_root-left.ensures in
    let right = operand p s b.value c.deref-in-Binary-2.result.now c.deref-in-Binary-3.result.now c.inner-in-Binary.result c.with_root-right.result
    c.deref-in-Binary-2.ensures c.deref-in-Binary-3.ensures c.inner-in-Binary.ensures c.with_root-right.ensures in
    let both = made_size p s (view a.value) + made_size p s (view b.value) in
    let sum = summed c.with_root-left.result c.with_root-right.result c.capped_sum.result (made_size p s (view a.value)) (made_size p s (view b.value)) left right c.capped_sum.ensures in
    inner_of p s (view c.args.e.now) (tree.binary op (view a.value) (view b.value)) c.capped_sum-in-Binary.result (ap view c.in-Binary.is ∙ viewed-Binary op a b)
    (c.capped_sum-in-Binary.ensures ∙ ap (λ y. capped (c.capped_sum.result + y)) c.further.ensures ∙ ap (λ x. capped (x + further op)) sum ∙ capped_left both (further op))

pub inner-returns-in-If : goal.inner-returns-in-If
inner-returns-in-If t c =
    let p = program_view c.args.catalog.now in
    let s = c.args.counts.now in
    let k = c.in-If.c in
    let a = c.in-If.a in
    let b = c.in-If.b in
    let condition = operand p s k.value c.deref-in-If.result.now c.deref-in-If-2.result.now c.inner-in-If.result c.with_root-condition.result
    c.deref-in-If.ensures c.deref-in-If-2.ensures c.inner-in-If.ensures c.with_root-condition.ensures in
    let left = operand p s a.value c.deref-in-If-3.result.now c.deref-in-If-4.result.now c.inner-in-If-2.result c.with_root-left-in-If.result
    c.deref-in-If-3.ensures c.deref-in-If-4.ensures c.inner-in-If-2.ensures c.with_root-left-in-If.ensures in
    let right = operand p s b.value c.deref-in-If-5.result.now c.deref-in-If-6.result.now c.inner-in-If-3.result c.with_root-right-in-If.result
    c.deref-in-If-5.ensures c.deref-in-If-6.ensures c.inner-in-If-3.ensures c.with_root-right-in-If.ensures in
    let both = made_size p s (view k.value) + made_size p s (view a.value) in
    let sum = summed c.with_root-condition.result c.with_root-left-in-If.result c.capped_sum-in-If.result (made_size p s (view k.value)) (made_size p s (view a.value)) condition left c.capped_sum-in-If.ensures in
    inner_of p s (view c.args.e.now) (tree.choice (view k.value) (view a.value) (view b.value)) c.capped_sum-in-If-2.result (ap view c.in-If.is ∙ viewed-If k a b)
    (summed c.capped_sum-in-If.result c.with_root-right-in-If.result c.capped_sum-in-If-2.result both (made_size p s (view b.value)) sum right c.capped_sum-in-If-2.ensures)
