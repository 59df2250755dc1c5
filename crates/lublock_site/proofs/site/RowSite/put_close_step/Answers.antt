use Rattle.std.proofs.Common.{rules, ◌≡◌, false, Some, sym, subst, ap, ◌∙◌}
use Rattle.std.specs.Prelude.{slice_get}
use Rattle.std.proofs.lemmas.Option.{same_Some}
use Rattle.luflow.specs.Program.{FlatView}
use Rattle.luflow.proofs.Solutions.{some_at}
use Rattle.lublock_kernels.proofs.Steps.{got}
use Rattle.lublock_site.specs.Going.{HasSentAt, IsGoing}
use Rattle.lublock_site.specs.Stations.{HasSent, MayClose}
use Rattle.lublock_site.specs.declared.outlets.Outlet.{Outlet}
use Rattle.lublock_site.proofs.Moving.{goes_map, going_sent, may_end}
use Rattle.lublock_site.proofs.site.RowSite.put_close_step.Goals as goal

pub put_close_at-requires-clause-may : goal.put_close_at-requires-clause-may
put_close_at-requires-clause-may c = λ o there.
    let x = c.args.self.now in
    let job = x.job.value in
    let flat_is : c.deref-flat.result.now ≡ job.plan.flat = c.deref-flat.ensures ∙ c.requires.frame.code.flat in
    let here : slice_get x.outlets.items c.args.k ≡ Some c.index-outlet.result.now = got x.outlets.items c.args.k c.index-outlet.result.now (search rules) c.index-outlet.ensures in
    let same : c.index-outlet.result.now ≡ o = same_Some c.index-outlet.result.now o (sym here ∙ there) in
    let unclosed : o.closed ≡ false = ap (λ (p : Outlet). p.closed) (sym same) ∙ c.if-outlet.false in
    let none : o.sent ≡ 0 = ap (λ (p : Outlet). p.sent) (sym same) ∙ (search rules) in
    subst (λ (f : FlatView). MayClose f o) (sym flat_is) (may_end x c.requires c.args.k o there (search rules) none unclosed)

pub returns-clause-going : goal.returns-clause-going
returns-clause-going c =
    let x = c.args.self.now in
    let job = x.job.value in
    let flat_is : c.deref-flat.result.now ≡ job.plan.flat = c.deref-flat.ensures ∙ c.requires.frame.code.flat in
    goes_map c.put_close_at.result (HasSentAt c.deref-flat.result.now c.args.k x.outlets.items c.put_close_at.new.outlets.items) (IsGoing (record x { outlets = c.put_close_at.new.outlets }))
    (λ has.
    let o = some_at x.outlets.items c.args.k (search rules) in
    let s = has o.0 o.1 in
    going_sent x c.put_close_at.new.outlets c.args.k o.0 s.0 c.requires o.1 s.1 (subst (λ (f : FlatView). HasSent f o.0 s.0) flat_is s.2))
    c.put_close_at.ensures
