use Rattle.std.proofs.Common.{sym, subst}
use Rattle.lusite.specs.declared.next.Next.{Next}
use Rattle.lusite.specs.Sites.{SiteView}
use Rattle.lusite.specs.Machine.{IsNext}
use Rattle.lurun.specs.Cuts.{IsOver, is_cut_at_put, is_cut_at_take}
use Rattle.lurun.proofs.items.ItemStation.try_item.Goals as goal

pub returns-in-Put-clause-over : goal.returns-in-Put-clause-over
returns-in-Put-clause-over c = λ e.
    (let v = c.self.inside.site in
    subst (λ (w : SiteView). IsOver w c.offer_one.new.txs.items c.self.inside.rxs.items) (sym (c.offer_one.ensures.next e))
    (is_cut_at_put c.in-Put.link c.in-Put.msg (subst (λ (n : Next). IsNext v.job v.site v.done n) c.in-Put.is c.next.ensures) (c.offer_one.ensures.over e)))

pub returns-in-Take-clause-over : goal.returns-in-Take-clause-over
returns-in-Take-clause-over c = λ e.
    (let v = c.self.inside.site in
    subst (λ (w : SiteView). IsOver w c.self.inside.txs.items c.poll_one.new.rxs.items) (sym (c.poll_one.ensures.next e))
    (is_cut_at_take c.in-Take.link (subst (λ (n : Next). IsNext v.job v.site v.done n) c.in-Take.is c.next.ensures) (c.poll_one.ensures.over e)))
