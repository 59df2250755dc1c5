use Rattle.luweave.specs.Worlds.{IsUnstuck, dones_of}
use Rattle.luweave.proofs.Worlds.{along, unstuck}
use Rattle.luweave.proofs.world.World.never_stuck.Goals as goal

pub returns : goal.returns
returns c =
    let a = c.self.inside in
    let j = a.first.value.job in
    along (λ x. IsUnstuck x.job x.dones) c.args.self.now (record { job = j; dones = dones_of a.sites.items }) c.self.view_is (unstuck j a.sites.items a.link_queues.items a.capacity c.self.invariant)
