use Rattle.std.proofs.Common.{subst, sym}
use Rattle.lusite.specs.Sites.{SiteView}
use Rattle.lusite.specs.Machine.{IsNext, done_of}
use Rattle.lusite.specs.declared.next.Next.TheVariants.{Local}
use Rattle.lusite.proofs.Offers.{offer_is}
use Rattle.lusite.proofs.site.Site.next.Goals as goal

pub returns-then-self : goal.returns-then-self
returns-then-self c =
    let a = c.self.inside.state in
    let h = offer_is a c.self.invariant.in_order.set c.self.invariant.in_order.stands c.self.invariant.ready in
    subst (λ (v : SiteView). IsNext v.job v.site v.done Local) c.self.view_is (subst (IsNext a.inputs.job a.inputs.site (done_of a)) (c.self.invariant.offers c.if-self.true) h)

pub returns : goal.returns
returns c =
    let a = c.self.inside.state in
    let h = offer_is a c.self.invariant.in_order.set c.self.invariant.in_order.stands c.self.invariant.ready in
    subst (λ (v : SiteView). IsNext v.job v.site v.done c.offer.result) c.self.view_is (subst (IsNext a.inputs.job a.inputs.site (done_of a)) (sym c.offer.ensures) h)
