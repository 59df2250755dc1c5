use Rattle.std.proofs.Common.{subst}
use Rattle.lusite.specs.Machine.{IsNext}
use Rattle.lusite.specs.Sites.{SiteView}
use Rattle.lusite.specs.declared.next.Next.TheVariants.{Ended}
use Rattle.lusite.proofs.Wholes.{whole_ended}
use Rattle.lusite.proofs.whole.WholeSite.standing.Goals as goal

pub returns : goal.returns
returns c =
    let a = c.self.inside in
    subst (λ (v : SiteView). IsNext v.job v.site v.done Ended) c.self.view_is (whole_ended a.job.value a.site a.sites a.instants a.names a.rows.items c.self.invariant)
