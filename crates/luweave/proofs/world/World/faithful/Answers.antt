use Rattle.luweave.specs.Worlds.{dones_of}
use Rattle.luweave.specs.Headline.{IsFaithful}
use Rattle.luweave.proofs.Worlds.{along}
use Rattle.luweave.proofs.Headlines.{faithful}
use Rattle.luweave.proofs.world.World.faithful.Goals as goal

pub returns : goal.returns
returns c =
    let a = c.self.inside in
    let j = a.first.value.job in
    along (λ x. IsFaithful x.job x.dones) c.args.self.now (record { job = j; dones = dones_of a.sites.items }) c.self.view_is (faithful j a.sites.items a.link_queues.items a.capacity c.self.invariant)
