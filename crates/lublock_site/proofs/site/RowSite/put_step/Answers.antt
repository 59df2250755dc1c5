use Rattle.std.proofs.Common.{rules, ◌≡◌, ℤ, List, Bool, true, false, Some, sym, subst, ap, ◌∙◌}
use Rattle.std.specs.Prelude.{Vec, slice_get}
use Rattle.std.specs.declared.alloc.Global.{Global}
use Rattle.std.proofs.lemmas.Option.{same_Some}
use Rattle.luflow.specs.Program.{FlatView}
use Rattle.luflow.proofs.Solutions.{some_at}
use Rattle.lublock_kernels.specs.declared.span.Span.{Span}
use Rattle.lublock_kernels.specs.Machine.{ticks_of}
use Rattle.lublock_kernels.proofs.Steps.{got}
use Rattle.lublock_site.specs.Going.{HasSentAt, IsGoing}
use Rattle.lublock_site.specs.Marks.{marked}
use Rattle.lublock_site.specs.Stations.{HasSent, MaySend}
use Rattle.lublock_site.specs.declared.outlets.Outlet.{Outlet}
use Rattle.lublock_site.proofs.Moving.{goes_map, going_run, going_sent, may_send}
use Rattle.lublock_site.proofs.site.RowSite.put_step.Goals as goal

pub put_at-requires-clause-may : goal.put_at-requires-clause-may
put_at-requires-clause-may c = λ o there.
    let x = c.args.self.now in
    let job = x.job.value in
    let flat_is : c.deref-flat.result.now ≡ job.plan.flat = c.deref-flat.ensures ∙ c.requires.frame.code.flat in
    let here : slice_get x.outlets.items c.args.k ≡ Some c.index-outlet.result.now = got x.outlets.items c.args.k c.index-outlet.result.now (search rules) c.index-outlet.ensures in
    let same : c.index-outlet.result.now ≡ o = same_Some c.index-outlet.result.now o (sym here ∙ there) in
    let unclosed : o.closed ≡ false = ap (λ (p : Outlet). p.closed) (sym same) ∙ c.if-outlet.false in
    let is_sure : marked x.sure.items o.flow ≡ true = subst (λ (p : Outlet). marked x.sure.items p.flow ≡ true) same (subst (λ (xs : List Bool). marked xs c.index-outlet.result.now.flow ≡ true) c.as_slice.ensures.value (sym c.is_marked.ensures ∙ c.if-not-is_marked.false)) in (
      subst (λ (f : FlatView). MaySend f c.as_slice-rows.result.now c.as_slice-spans.result.now o) (sym flat_is)
          (subst (λ (rows : List (Vec ℤ Global)). MaySend job.plan.flat rows c.as_slice-spans.result.now o) (sym c.as_slice-rows.ensures.value)
          (subst (λ (spans : List Span). MaySend job.plan.flat x.board.rows.items spans o) (sym c.as_slice-spans.ensures.value) (may_send x c.requires c.args.k o there unclosed is_sure))),
      c.ticks_at-to.ensures ∙ ap (λ (p : Outlet). ticks_of c.as_slice-spans.result.now p.flow) same,
    )

pub returns-clause-going : goal.returns-clause-going
returns-clause-going c =
    let x = c.args.self.now in
    let job = x.job.value in
    let flat_is : c.deref-flat.result.now ≡ job.plan.flat = c.deref-flat.ensures ∙ c.requires.frame.code.flat in
    goes_map c.put_at.result (HasSentAt c.deref-flat.result.now c.args.k x.outlets.items c.put_at.new.outlets.items) (IsGoing (record x { outlets = c.put_at.new.outlets; run = c.put_at.new.run }))
    (λ has.
    let o = some_at x.outlets.items c.args.k (search rules) in
    let s = has o.0 o.1 in
    going_run (record x { outlets = c.put_at.new.outlets }) c.put_at.new.run (going_sent x c.put_at.new.outlets c.args.k o.0 s.0 c.requires o.1 s.1 (subst (λ (f : FlatView). HasSent f o.0 s.0) flat_is s.2)))
    c.put_at.ensures
