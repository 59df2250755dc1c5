use Rattle.std.proofs.Common.{ℕ, refl, sym, subst, arith}
use Rattle.lusite.specs.declared.next.Next.{Next}
use Rattle.lusite.specs.declared.next.Next.TheVariants.{Ended}
use Rattle.lusite.specs.Machine.{IsNext}
use Rattle.luworld.specs.Systems.{done}
use Rattle.luworld.specs.WorldViews.{WorldView}
use Rattle.luweave.specs.Worlds.{dones_of}
use Rattle.luweave.proofs.Worlds.{along, none_beyond, offer, done_at}
use Rattle.luweave.proofs.world.World.next.Goals as goal

-- what a site of a world does next
abbrev DoesNext : Next → ℕ → WorldView → Type 0
DoesNext x s w = IsNext w.job s (done w.dones s) x

pub returns-then-s-len : goal.returns-then-s-len
returns-then-s-len c =
    let a = c.self.inside in
    let j = a.first.value.job in
    along (DoesNext Ended c.args.site) c.args.self.now (record { job = j; dones = dones_of a.sites.items }) c.self.view_is
    (none_beyond j a.sites.items a.link_queues.items a.capacity c.args.site c.self.invariant (omega (arith, c.len.ensures, c.if-s-len.true)))

pub returns : goal.returns
returns c =
    let a = c.self.inside in
    let j = a.first.value.job in
    let o = offer j a.sites.items a.link_queues.items a.capacity c.args.site c.next_of.result c.next_of.result c.self.invariant (omega (arith, c.len.ensures, c.if-s-len.false)) c.next_of.ensures refl in
    along (DoesNext c.next_of.result c.args.site) c.args.self.now (record { job = j; dones = dones_of a.sites.items }) c.self.view_is
    (subst (λ (n : ℕ). IsNext j c.args.site n c.next_of.result) (sym (done_at a.sites.items c.args.site o.site o.there)) o.next)
