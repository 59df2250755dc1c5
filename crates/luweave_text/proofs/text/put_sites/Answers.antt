use Rattle.std.proofs.Common.{◌≡◌, ◌++◌, [], sym, ap, ◌∙◌, subst, append-nil, string_bytes}
use Rattle.luworld.specs.Systems.{done}
use Rattle.luworld.specs.Needs.{PlanView}
use Rattle.lusite.specs.Machine.{IsStanding}
use Rattle.lusite.specs.Sites.{SiteView}
use Rattle.luweave_text.specs.WorldText.{NoSites, OneSiteMore, site_line}
use Rattle.luweave_text.proofs.Texts.{then_more}
use Rattle.luweave_text.proofs.text.put_sites.Goals as goal

pub loop-site-init : goal.loop-site-init
loop-site-init c = ([], NoSites, sym (append-nil (string_bytes c.args.text.now)))

pub loop-site-preserved : goal.loop-site-preserved
loop-site-preserved c =
    let w = c.args.world.now in
    let n = c.loop-site.site in
    let st = c.standing.result in
    let so_far = c.loop-site.invariant in
    let stands : IsStanding w.job n (done w.dones n) st = subst (λ (v : SiteView). IsStanding v.job v.site v.done st) c.site.ensures c.standing.ensures in
    let line : string_bytes c.put_site.new.text ≡ string_bytes c.loop-site.text ++ site_line w.job.plan n st =
    c.in_ok-put_site.ensures ∙ ap (λ (q : PlanView). string_bytes c.loop-site.text ++ site_line q n st) (sym c.requires.plan_is) in
    (so_far.0 ++ site_line w.job.plan n st, OneSiteMore n so_far.0 st so_far.1 stands, then_more (string_bytes c.args.text.now) (string_bytes c.loop-site.text) (string_bytes c.put_site.new.text) so_far.0 (site_line w.job.plan n st) so_far.2 line)
