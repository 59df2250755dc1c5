use Rattle.std.proofs.Common.{◌≡◌, ◌<◌, ℕ, List, [], length, cond, ap, sym, ◌∙◌, arith, get_or, slice_get, Bool, Some}
use Rattle.std.proofs.lemmas.Option.{slice_get-get_or}
use Rattle.luflow.specs.declared.form.Flow.{Flow}
use Rattle.luflow.specs.Program.{places, clock_reads, flow_at}
use Rattle.luworld.specs.Needs.{is_in, stands}
use Rattle.luplace.specs.Placing.{bare}
use Rattle.luplace.specs.Marks.{marked_all, sites_at}
use Rattle.luplace.proofs.Marked.{own_step}
use Rattle.luplace.proofs.marking.own_marks.Goals as goal

pub loop-i-preserved : goal.loop-i-preserved
loop-i-preserved c =
    let flat = c.flows-flows.ensures.flat in
    let plan = bare c.args.flat.now [] c.args.placed.now in
    let d = c.index-flows-i.result in
    let flow = get_or c.flows-flows.result.now c.loop-i.i d in
    let lt : c.loop-i.i < length c.flows-flows.result.now = omega arith in
    let here : flow_at plan.flat c.loop-i.i ≡ Some flow =
    ap (λ (xs : List Flow). slice_get xs c.loop-i.i) (sym c.flows-flows.ensures.flows) ∙ slice_get-get_or c.flows-flows.result.now c.loop-i.i d lt in
    let own : c.stands_at.result ≡ stands plan c.loop-i.i c.args.site =
    c.stands_at.ensures ∙ ap (λ (xs : List ℕ). is_in c.args.site (sites_at xs c.args.placed.now c.loop-i.i)) c.owners.ensures in
    let marks = c.loop-i.marks.items in
    let e =
    c.mark_own.ensures
    ∙ ap (λ (f : Flow). cond c.stands_at.result (marked_all (clock_reads f.clock) (marked_all (places f.form) marks)) marks) c.index-flows-i.is
    ∙ ap (λ (b : Bool). cond b (marked_all (clock_reads flow.clock) (marked_all (places flow.form) marks)) marks) own in
    own_step plan c.args.site flat c.loop-i.i flow marks c.mark_own.new.marks.items here e c.loop-i.invariant
