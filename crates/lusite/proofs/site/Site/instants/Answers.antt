use Rattle.std.proofs.Common.{subst}
use Rattle.luworld.specs.Jobs.{IsJob}
use Rattle.lusite.specs.Sites.{SiteView}
use Rattle.lusite.proofs.site.Site.instants.Goals as goal

pub returns-clause-job : goal.returns-clause-job
returns-clause-job c = subst (λ (v : SiteView). IsJob v.job) c.self.view_is c.self.invariant.in_order.set.is_job
