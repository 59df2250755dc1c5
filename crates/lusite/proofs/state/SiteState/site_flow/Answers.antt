use Rattle.lusite.proofs.state.SiteState.site_flow.Goals as goal

pub returns : goal.returns
returns c = (c.here.result.1.now, c.here.result.2.now, c.here.ensures)
