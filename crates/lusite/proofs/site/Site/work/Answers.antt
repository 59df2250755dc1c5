use Rattle.std.proofs.Common.{ℕ, ◌<◌, Bool, length, sym, ap, ap₂, ◌∙◌, subst, arith}
use Rattle.std.specs.Prelude.{is_some, slice_index}
use Rattle.luworld.specs.Systems.{Compute}
use Rattle.lusite_program.specs.Programs.{SiteProgramView, part_at, places_of}
use Rattle.lusite.specs.declared.state.SiteState.{SiteState}
use Rattle.std.proofs.lemmas.Bool.{false≢true}
use Rattle.lusite.specs.Machine.{IsLocalNext, done_of}
use Rattle.lusite.specs.Sites.{SiteView, IsSite}
use Rattle.lusite.proofs.SiteFlows.{row_within}
use Rattle.lusite.proofs.SiteStates.{going_state}
use Rattle.lusite.proofs.Turns.{here_from}
use Rattle.lusite.proofs.OneMore.{not_stopped, same_job, same_site, done_more}
use Rattle.lusite.proofs.site.Site.work.Goals as goal

-- where the next item is a computation a flow is at hand
own_within : (a : SiteState) {l : Bool} → IsSite a l → IsLocalNext a.inputs.job a.inputs.site (done_of a) → a.row < length (places_of a.program.plan a.program.site)
own_within a i next =
    let goes = not_stopped a _ i.in_order.stands next.2 in
    let g = going_state a (record { in_order = i.in_order; going = goes }) in
    row_within a i.in_order.set (here_from a (Compute next.0 next.1) g (i.ready goes) next.2).place_lt

pub work-requires-clause-next : goal.work-requires-clause-next
work-requires-clause-next c = subst (λ (v : SiteView). IsLocalNext v.job v.site v.done) (sym c.self.view_is) c.requires

pub work-requires-clause-going : goal.work-requires-clause-going
work-requires-clause-going c =
    let next = subst (λ (v : SiteView). IsLocalNext v.job v.site v.done) (sym c.self.view_is) c.requires in
    record { in_order = c.self.invariant.in_order; going = not_stopped c.self.inside.state _ c.self.invariant.in_order.stands next.2 }

pub work-requires-clause-ready : goal.work-requires-clause-ready
work-requires-clause-ready c =
    let next = subst (λ (v : SiteView). IsLocalNext v.job v.site v.done) (sym c.self.view_is) c.requires in
    c.self.invariant.ready (not_stopped c.self.inside.state _ c.self.invariant.in_order.stands next.2)

pub is_unsent-unsent-requires-clause-within : goal.is_unsent-unsent-requires-clause-within
is_unsent-unsent-requires-clause-within c = own_within c.self.inside.state c.self.invariant (subst (λ (v : SiteView). IsLocalNext v.job v.site v.done) (sym c.self.view_is) c.requires)

pub settle_computed-self-inside-requires-clause-going : goal.settle_computed-self-inside-requires-clause-going
settle_computed-self-inside-requires-clause-going c = record { in_order = c.work.ensures.in_order; going = c.work.ensures.goes c.if-work.true }

pub settle_computed-self-inside-requires-clause-row : goal.settle_computed-self-inside-requires-clause-row
settle_computed-self-inside-requires-clause-row c =
    let l = own_within c.self.inside.state c.self.invariant (subst (λ (v : SiteView). IsLocalNext v.job v.site v.done) (sym c.self.view_is) c.requires) in
    let same = ap (λ (p : SiteProgramView). length (places_of p.plan p.site)) c.work.ensures.same.program_is in
    omega (arith, l, same, c.work.ensures.row)

pub settle_computed-self-inside-requires-clause-unsent : goal.settle_computed-self-inside-requires-clause-unsent
settle_computed-self-inside-requires-clause-unsent c on =
    ap₂ (λ (p : SiteProgramView) (r : ℕ). length (part_at p (slice_index p.plan.flat.order r)).to) c.work.ensures.same.program_is c.work.ensures.place
    ∙ c.is_unsent-unsent.ensures on

pub invariant_of-self : goal.invariant_of-self
invariant_of-self c = record {
  in_order = c.settle_computed-self-inside.ensures.goes_on.in_order;
  tells = λ fault e. absurd (false≢true (sym (c.work.ensures.goes c.if-work.true) ∙ ap is_some (sym c.settle_computed-self-inside.ensures.goes_on.fault ∙ e)));
  ready = λ _. c.settle_computed-self-inside.ensures.ready;
  offers = c.settle_computed-self-inside.ensures.local;
}

pub returns-then-work : goal.returns-then-work
returns-then-work c =
    let a = c.self.inside.state in
    let b = c.work.new.self in
    let d = c.settle_computed-self-inside.new.self in
    let v = c.args.self.now in
    let one = c.work.ensures.same in
    let two = c.settle_computed-self-inside.ensures.goes_on.same in
    record {
      job = same_job a b d v c.self.view_is one two;
      site = same_site a b d v c.self.view_is one two;
      done = done_more a b d v c.self.view_is one two c.work.ensures.done c.settle_computed-self-inside.ensures.done;
    }
