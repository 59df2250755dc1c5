use Rattle.std.proofs.Common.{◌≡◌, ◌∙◌, subst}
use Rattle.std.proofs.lemmas.Option.{get_or_from_slice_get}
use Rattle.luworld.specs.Outline.{left_after}
use Rattle.luworld.specs.Jobs.{IsJobView, outline, streams_of}
use Rattle.lusite.specs.Sites.{SiteView}
use Rattle.luweave.proofs.left.left_at.Goals as goal

pub returns-clause-left : goal.returns-clause-left
returns-clause-left c v at =
    let same = c.index.ensures ∙ get_or_from_slice_get c.args.sites.now.items c.args.s v _ at in
    subst (λ (x : SiteView). c.left.result ≡ left_after (outline x.job (streams_of x.job)) x.site x.done) same c.left.ensures.left

pub returns-clause-run : goal.returns-clause-run
returns-clause-run c v at =
    let same = c.index.ensures ∙ get_or_from_slice_get c.args.sites.now.items c.args.s v _ at in
    subst (λ (x : SiteView). IsJobView x.job) same c.left.ensures.run
