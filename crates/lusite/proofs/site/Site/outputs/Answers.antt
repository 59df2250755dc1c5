use Rattle.std.proofs.Common.{subst}
use Rattle.lusite.specs.Sites.{SiteView}
use Rattle.lusite.specs.Logs.{IsOutput}
use Rattle.lusite.proofs.Outputs.{output_is}
use Rattle.lusite.proofs.site.Site.outputs.Goals as goal

pub returns : goal.returns
returns c =
    let a = c.self.inside.state in
    let i = c.self.invariant in
    subst (λ (v : SiteView). IsOutput v.job v.site v.done c.args.k c.output.result.now) c.self.view_is (output_is a i.in_order.set i.in_order.stands i.in_order.logged i.ready c.args.k c.output.result.now c.output.ensures)
