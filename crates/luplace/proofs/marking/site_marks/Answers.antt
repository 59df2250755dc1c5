use Rattle.std.proofs.Common.{◌≡◌, ◌<◌, ◌+◌, ◌-◌, ℕ, List, [], length, cond, ap, ap₂, sym, ◌∙◌, subst, arith, slice_get, slice_index}
use Rattle.luflow.specs.declared.form.Flow.{Flow}
use Rattle.luplace.specs.Placing.{bare}
use Rattle.luplace.specs.Marks.{is_marked, marked_all, clock_at, AreClosedMarks}
use Rattle.luplace.proofs.Marked.{closed_step, are_marks}
use Rattle.luplace.proofs.marking.site_marks.Goals as goal

pub loop-p-preserved : goal.loop-p-preserved
loop-p-preserved c =
    let flat = c.flows-flows.ensures.flat in
    let plan = bare c.args.flat.now [] c.args.placed.now in
    let p = c.loop-p.p - 1 in
    let marks = c.loop-p.marks.items in
    let ranked = ap length c.rank-order.ensures in
    let lt : p < length c.args.flat.now.order = omega (arith, ranked) in
    let next : p + 1 ≡ c.loop-p.p = omega arith in
    let e =
    c.mark_clock_of.ensures
    ∙ ap₂ (λ (xs : List Flow) (ys : List ℕ). cond (is_marked marks (slice_index ys p)) (marked_all (clock_at (slice_get xs (slice_index ys p))) marks) marks) c.flows-flows.ensures.flows c.rank-order.ensures in
    closed_step plan c.args.site flat p marks c.mark_clock_of.new.marks.items lt e (subst (λ (n : ℕ). AreClosedMarks plan c.args.site n marks) (sym next) c.loop-p.invariant)

pub returns : goal.returns
returns c =
    let flat = c.flows-flows.ensures.flat in
    let plan = bare c.args.flat.now [] c.args.placed.now in
    let z : c.loop-p.p ≡ 0 = omega arith in
    are_marks plan c.args.site flat c.loop-p.marks.items (subst (λ (n : ℕ). AreClosedMarks plan c.args.site n c.loop-p.marks.items) z c.loop-p.invariant)
