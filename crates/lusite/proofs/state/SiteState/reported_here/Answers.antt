use Rattle.lusite.proofs.SiteFlows.{reported_is}
use Rattle.lusite.proofs.state.SiteState.reported_here.Goals as goal

pub returns : goal.returns
returns c =
    let a = c.args.self.now in
    reported_is a c.requires.set c.site_flow.result.now c.site_flow.ensures.0 c.site_flow.ensures.1 c.site_flow.ensures.2 c.requires.within
