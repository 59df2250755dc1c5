use Rattle.std.proofs.Common.{All, Vec, sym, subst, ap, ◌∙◌}
use Rattle.std.specs.declared.alloc.Global.{Global}
use Rattle.std.proofs.lemmas.List.Elements.{All-push}
use Rattle.lublock_site.specs.Codes.{IsSentLink}
use Rattle.lublock_site.specs.declared.code_links.SiteLink.{SiteLink}
use Rattle.lublock_site.proofs.code_links.links_by.Goals.{then-links-l+in-Some+in_ok-push, else-links-l}
use Rattle.lublock_site.proofs.code_links.links_by.Goals as goal

pub loop-l-preserved : goal.loop-l-preserved
loop-l-preserved c =
    let P = IsSentLink c.args.plan.now c.args.own.now in
    let links = c.loop-l.links.items in
    elim c.if-links-l.branch [
      | then-links-l+in-Some+in_ok-push w ↦
          subst (All P) (sym (ap (λ (x : Vec SiteLink Global). x.items) w.links-is ∙ w.in_ok-push.ensures.items)) (All-push P links w.in-Some.link c.loop-l.invariant w.in-Some.ensures)
      | else-links-l w ↦ subst (All P) (ap (λ (x : Vec SiteLink Global). x.items) (sym w.links-is)) c.loop-l.invariant
    ]
