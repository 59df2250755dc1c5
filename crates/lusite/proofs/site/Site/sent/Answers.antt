use Rattle.std.proofs.Common.{sym, ap, ◌∙◌, subst}
use Rattle.std.specs.Prelude.{is_some}
use Rattle.std.proofs.lemmas.Bool.{false≢true}
use Rattle.lusite.specs.Machine.{IsPutNext}
use Rattle.lusite.specs.Sites.{SiteView}
use Rattle.lusite.proofs.OneMore.{not_stopped, same_job, same_site, done_more}
use Rattle.lusite.proofs.site.Site.sent.Goals as goal

pub sent-requires-clause-next : goal.sent-requires-clause-next
sent-requires-clause-next c = subst (λ (v : SiteView). IsPutNext v.job v.site v.done) (sym c.self.view_is) c.requires

pub sent-requires-clause-going : goal.sent-requires-clause-going
sent-requires-clause-going c =
    let next = subst (λ (v : SiteView). IsPutNext v.job v.site v.done) (sym c.self.view_is) c.requires in
    record { in_order = c.self.invariant.in_order; going = not_stopped c.self.inside.state _ c.self.invariant.in_order.stands next.1 }

pub sent-requires-clause-ready : goal.sent-requires-clause-ready
sent-requires-clause-ready c =
    let next = subst (λ (v : SiteView). IsPutNext v.job v.site v.done) (sym c.self.view_is) c.requires in
    c.self.invariant.ready (not_stopped c.self.inside.state _ c.self.invariant.in_order.stands next.1)

pub settle-self-inside-requires : goal.settle-self-inside-requires
settle-self-inside-requires c =
    let next = subst (λ (v : SiteView). IsPutNext v.job v.site v.done) (sym c.self.view_is) c.requires in
    let goes = not_stopped c.self.inside.state _ c.self.invariant.in_order.stands next.1 in
    record { in_order = c.sent.ensures.goes_on.in_order; going = ap is_some c.sent.ensures.goes_on.fault ∙ goes }

pub invariant_of-self : goal.invariant_of-self
invariant_of-self c =
    let next = subst (λ (v : SiteView). IsPutNext v.job v.site v.done) (sym c.self.view_is) c.requires in
    let goes = not_stopped c.self.inside.state _ c.self.invariant.in_order.stands next.1 in
    record {
      in_order = c.settle-self-inside.ensures.goes_on.in_order;
      tells = λ fault e. absurd (false≢true (sym goes ∙ ap is_some (sym (c.settle-self-inside.ensures.goes_on.fault ∙ c.sent.ensures.goes_on.fault) ∙ e)));
      ready = λ _. c.settle-self-inside.ensures.ready;
      offers = c.settle-self-inside.ensures.local;
    }

pub returns : goal.returns
returns c =
    let a = c.self.inside.state in
    let b = c.sent.new.self in
    let d = c.settle-self-inside.new.self in
    let v = c.args.self.now in
    let one = c.sent.ensures.goes_on.same in
    let two = c.settle-self-inside.ensures.goes_on.same in
    record {
      job = same_job a b d v c.self.view_is one two;
      site = same_site a b d v c.self.view_is one two;
      done = done_more a b d v c.self.view_is one two c.sent.ensures.done c.settle-self-inside.ensures.done;
    }
