use Rattle.std.proofs.Common.{subst}
use Rattle.luworld.specs.Jobs.{IsJob}
use Rattle.lusite.specs.Sites.{SiteView}
use Rattle.lusite.proofs.Wholes.{whole_job}
use Rattle.lusite.proofs.whole.WholeSite.instants.Goals as goal

pub returns-clause-job : goal.returns-clause-job
returns-clause-job c =
    let a = c.self.inside in
    subst (λ (v : SiteView). IsJob v.job) c.self.view_is (whole_job a.job.value a.site a.sites a.instants a.names a.rows.items c.self.invariant)
