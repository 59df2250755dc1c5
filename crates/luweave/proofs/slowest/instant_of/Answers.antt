use Rattle.std.proofs.Common.{ap, sym, subst, ◌∙◌}
use Rattle.std.proofs.lemmas.Option.{get_or_from_slice_get}
use Rattle.lusite.specs.Machine.{IsAtInstant}
use Rattle.lusite.specs.Sites.{SiteView}
use Rattle.luweave.proofs.Instants.{instant_now, no_more}
use Rattle.luweave.proofs.slowest.instant_of.Goals as goal

pub returns-then-goes_on : goal.returns-then-goes_on
returns-then-goes_on c = λ x at.
    let same = c.index.ensures ∙ get_or_from_slice_get c.args.sites.now.items c.args.s x c.index.result.now at in
    let some = sym (c.goes_on.ensures x.job x.site x.done (c.next_of.ensures x at)) ∙ c.if-goes_on.true in
    instant_now x.job x.site x.done c.instant.result some (subst (λ (v : SiteView). IsAtInstant v.job v.site v.done c.instant.result) same c.instant.ensures)

pub returns-else-goes_on : goal.returns-else-goes_on
returns-else-goes_on c = λ x at.
    let same = c.index-else-goes_on.ensures ∙ get_or_from_slice_get c.args.sites.now.items c.args.s x c.index-else-goes_on.result.now at in
    let none = sym (c.goes_on.ensures x.job x.site x.done (c.next_of.ensures x at)) ∙ c.if-goes_on.false in
    c.instants.ensures.instants ∙ ap (λ (v : SiteView). v.job.inputs.instants) same ∙ no_more x.job x.site x.done none
