use Rattle.std.proofs.Common.{sym, ◌∙◌}
use Rattle.std.proofs.lemmas.Bool.{eqb-true}
use Rattle.lusite.proofs.SiteFlows.{outs_is}
use Rattle.lusite.proofs.state.SiteState.is_unsent.Goals as goal

pub returns : goal.returns
returns c none =
    let a = c.args.self.now in
    let is = c.site_flow.ensures in
    sym (outs_is a c.requires.set c.site_flow.result.now is.0 is.1 is.2 c.requires.within) ∙ eqb-true c.site_flow.result.now.outs 0 none
