use Rattle.luweave.specs.Worlds.{IsOnlyEnd, dones_of}
use Rattle.luweave.proofs.Worlds.{along, only_end}
use Rattle.luweave.proofs.world.World.same_end.Goals as goal

pub returns : goal.returns
returns c =
    let a = c.self.inside in
    let j = a.first.value.job in
    along (λ x. IsOnlyEnd x.job x.dones) c.args.self.now (record { job = j; dones = dones_of a.sites.items }) c.self.view_is (only_end j a.sites.items a.link_queues.items a.capacity c.self.invariant)
