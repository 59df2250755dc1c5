use Rattle.std.proofs.Common.{◌≡◌, ℕ, length, sym, ap, ◌∙◌, subst}
use Rattle.std.proofs.lemmas.Option.{get_or_from_slice_get}
use Rattle.luworld.specs.Systems.{new_world}
use Rattle.luworld.specs.Jobs.{JobView, IsJob}
use Rattle.luworld.specs.Jobs.{system_of}
use Rattle.lusite.specs.Sites.{SiteView}
use Rattle.luweave.specs.Worlds.{IsWorld, IsNewLinkQueue, dones_of}
use Rattle.luflow.proofs.Solutions.{some_at}
use Rattle.luweave.proofs.Worlds.{some_sites, world_new, new_dones, first_is}
use Rattle.luweave.proofs.world.World.new.Goals as goal

pub invariant_of-result : goal.invariant_of-result
invariant_of-result c =
    let n = c.requires in
    let v = some_at c.args.sites.items 0 (some_sites c.args.plan.now c.args.sites.items n) in
    let f = first_is c.args.plan.now c.args.sites.items v.0 n v.1 in
    let ok = subst IsJob f (c.instants_of-instants.ensures.job v.0 v.1) in
    let e = c.instants_of-instants.ensures.instants v.0 v.1 ∙ ap (λ (j : JobView). j.inputs.instants) f in
    let same : c.of-first.result.value ≡ v.0 = c.of-first.ensures ∙ c.index.ensures ∙ get_or_from_slice_get c.args.sites.items 0 v.0 _ v.1 in
    subst (λ (j : JobView). IsWorld j c.args.sites.items c.in_ok-link_queues.link_queues.items c.capacity.result) (sym (ap (λ (w : SiteView). w.job) same ∙ f))
    (world_new c.args.plan.now c.args.sites.items c.in_ok-link_queues.link_queues.items c.capacity.result n ok c.capacity.ensures (c.in_ok-link_queues.ensures.len ∙ ap length c.links.ensures)
    (λ l x at. subst (λ (k : ℕ). IsNewLinkQueue k x) e (c.in_ok-link_queues.ensures.each l x at)))

pub returns-clause-dones : goal.returns-clause-dones
returns-clause-dones c =
    let n = c.requires in
    let v = some_at c.args.sites.items 0 (some_sites c.args.plan.now c.args.sites.items n) in
    let f = first_is c.args.plan.now c.args.sites.items v.0 n v.1 in
    let same : c.of-first.result.value ≡ v.0 = c.of-first.ensures ∙ c.index.ensures ∙ get_or_from_slice_get c.args.sites.items 0 v.0 _ v.1 in
    subst (λ (j : JobView). dones_of c.args.sites.items ≡ new_world (system_of j)) (sym (ap (λ (w : SiteView). w.job) same ∙ f)) (new_dones c.args.plan.now c.args.sites.items n)
