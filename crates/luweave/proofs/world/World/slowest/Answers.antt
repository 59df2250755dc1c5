use Rattle.std.proofs.Common.{◌≡◌, ◌+◌, min, length, ap, sym, subst, ◌∙◌, arith}
use Rattle.std.proofs.lemmas.List.{length-map}
use Rattle.luworld.specs.Jobs.{JobView}
use Rattle.luworld.specs.WorldViews.{WorldView}
use Rattle.luflow.proofs.Solutions.{some_at}
use Rattle.lusite.specs.Sites.{SiteView}
use Rattle.luweave.specs.Slowest.{slowest_of}
use Rattle.luweave.specs.Worlds.{dones_of}
use Rattle.luweave.proofs.Worlds.{along}
use Rattle.luweave.proofs.Finishing.{sites_long}
use Rattle.luweave.proofs.Instants.{no_site, one_site_more}
use Rattle.luweave.proofs.world.World.slowest.Goals as goal

pub loop-s-init : goal.loop-s-init
loop-s-init c =
    let a = c.self.inside in
    let j = a.first.value.job in
    let n = sites_long j a.sites.items a.link_queues.items a.capacity c.self.invariant in
    let some = c.self.invariant.is_job.is_plan.some_sites in
    let v = some_at a.sites.items 0 (omega (arith, n, some)) in
    let h = c.self.invariant.sites_are 0 v.0 v.1 in
    let w : WorldView = record { job = j; dones = dones_of a.sites.items } in
    along (λ (x : WorldView). c.instants_of-least.result ≡ slowest_of x 0) c.args.self.now w c.self.view_is
    (c.instants_of-least.ensures.instants v.0 v.1 ∙ ap (λ (k : JobView). k.inputs.instants) h.0 ∙ no_site w)

pub loop-s-preserved : goal.loop-s-preserved
loop-s-preserved c =
    let a = c.self.inside in
    let j = a.first.value.job in
    let s = c.loop-s.s in
    let v = some_at a.sites.items s (omega (arith, c.len-s-end.ensures, c.loop-s-test.true)) in
    let w : WorldView = record { job = j; dones = dones_of a.sites.items } in
    let before = subst (λ (x : WorldView). c.loop-s.least ≡ slowest_of x s) (sym c.self.view_is) c.loop-s.invariant in
    along (λ (x : WorldView). c.min-least.result ≡ slowest_of x (s + 1)) c.args.self.now w c.self.view_is
    (one_site_more j a.sites.items a.link_queues.items a.capacity c.self.invariant s v.0 v.1 c.loop-s.least c.min-least.result before
    (c.min-least.ensures ∙ ap (min c.loop-s.least) (c.instant_of.ensures v.0 v.1)))

pub returns : goal.returns
returns c =
    let a = c.self.inside in
    let n = length-map a.sites.items (λ (v : SiteView). v.done) in
    let e = ap (λ (x : WorldView). length x.dones) (sym c.self.view_is) in
    let all : c.loop-s.s ≡ length c.args.self.now.dones = omega (arith, n, e, c.len-s-end.ensures, c.loop-s-test.false, c.loop-s.auto.s-end) in
    c.loop-s.invariant ∙ ap (slowest_of c.args.self.now) all
