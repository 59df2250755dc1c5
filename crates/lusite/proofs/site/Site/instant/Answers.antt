use Rattle.std.proofs.Common.{subst}
use Rattle.lusite.specs.Sites.{SiteView}
use Rattle.lusite.specs.Machine.{IsAtInstant}
use Rattle.lusite.proofs.Instants.{state_instant}
use Rattle.lusite.proofs.site.Site.instant.Goals as goal

pub returns : goal.returns
returns c =
    let a = c.self.inside.state in
    subst (λ (v : SiteView). IsAtInstant v.job v.site v.done a.instant) c.self.view_is (state_instant a c.self.invariant)
