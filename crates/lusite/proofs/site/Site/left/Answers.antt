use Rattle.std.proofs.Common.{◌≡◌, ◌∙◌, sym, subst}
use Rattle.luworld.specs.Outline.{left_after}
use Rattle.luworld.specs.Jobs.{IsJobView, outline, streams_of}
use Rattle.lusite.specs.Sites.{SiteView}
use Rattle.lusite.proofs.Widths.{state_faulted}
use Rattle.lusite.proofs.site.Site.left.Goals as goal

pub returns-then-is_some-clause-left : goal.returns-then-is_some-clause-left
returns-then-is_some-clause-left c =
    let a = c.self.inside.state in
    let i = c.self.invariant in
    let P : SiteView → Type 0 = λ v. 0 ≡ left_after (outline v.job (streams_of v.job)) v.site v.done in
    subst P c.self.view_is (sym (state_faulted a c.recall_invariant.ensures i.in_order.set i.in_order.stands i.tells (sym c.is_some.ensures ∙ c.if-is_some.true)))

pub returns-then-is_some-clause-run : goal.returns-then-is_some-clause-run
returns-then-is_some-clause-run c = subst (λ (v : SiteView). IsJobView v.job) c.self.view_is c.recall_invariant.ensures

pub left-requires : goal.left-requires
left-requires c =
    let i = c.self.invariant in
    let goes = sym c.is_some.ensures ∙ c.if-is_some.false in
    record { run = c.recall_invariant.ensures; set = i.in_order.set; stands = i.in_order.stands; going = goes; ready = i.ready goes }

pub returns-clause-left : goal.returns-clause-left
returns-clause-left c =
    let P : SiteView → Type 0 = λ v. c.left.result ≡ left_after (outline v.job (streams_of v.job)) v.site v.done in
    subst P c.self.view_is c.left.ensures.left

pub returns-clause-run : goal.returns-clause-run
returns-clause-run c = subst (λ (v : SiteView). IsJobView v.job) c.self.view_is c.recall_invariant.ensures
