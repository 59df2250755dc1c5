use Rattle.std.proofs.Common.{◌∙◌, subst}
use Rattle.std.proofs.lemmas.Option.{get_or_from_slice_get}
use Rattle.lusite.specs.Sites.{SiteView}
use Rattle.lusite.specs.Logs.{IsOutput}
use Rattle.luweave.proofs.world.output_in.Goals as goal

pub returns : goal.returns
returns c x e =
    let now = c.index.result.now in
    let same = c.index.ensures ∙ get_or_from_slice_get c.args.sites.now.items c.args.s x now e in
    subst (λ (v : SiteView). IsOutput v.job v.site v.done c.args.k c.outputs.result.now) same c.outputs.ensures
