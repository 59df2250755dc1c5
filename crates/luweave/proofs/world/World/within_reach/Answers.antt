use Rattle.luworld.specs.Systems.{IsWired}
use Rattle.luworld.specs.Jobs.{system_of}
use Rattle.luworld.proofs.Outlines.{is_wired}
use Rattle.luweave.specs.Schedules.{IsWithinReach}
use Rattle.luweave.specs.Worlds.{dones_of}
use Rattle.luweave.proofs.Schedules.{within_reach}
use Rattle.luweave.proofs.Worlds.{along}
use Rattle.luweave.proofs.world.World.within_reach.Goals as goal

pub returns-clause-wired : goal.returns-clause-wired
returns-clause-wired c =
    let a = c.self.inside in
    let j = a.first.value.job in
    along (λ x. IsWired (system_of x.job)) c.args.self.now (record { job = j; dones = dones_of a.sites.items }) c.self.view_is (is_wired j c.self.invariant.is_job)

pub returns-clause-reach : goal.returns-clause-reach
returns-clause-reach c =
    let a = c.self.inside in
    let j = a.first.value.job in
    along (λ x. IsWithinReach x.job x.dones) c.args.self.now (record { job = j; dones = dones_of a.sites.items }) c.self.view_is (within_reach j a.sites.items a.link_queues.items a.capacity c.self.invariant)
