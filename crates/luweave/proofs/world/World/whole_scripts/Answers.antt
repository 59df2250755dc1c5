use Rattle.luworld.specs.Jobs.{NoFault}
use Rattle.luweave.specs.Schedules.{AreWholeScripts}
use Rattle.luweave.specs.Worlds.{dones_of}
use Rattle.luweave.proofs.Schedules.{whole_scripts}
use Rattle.luweave.proofs.Worlds.{along}
use Rattle.luweave.proofs.world.World.whole_scripts.Goals as goal

pub returns : goal.returns
returns c =
    let a = c.self.inside in
    let j = a.first.value.job in
    along (λ x. NoFault x.job → AreWholeScripts x.job) c.args.self.now (record { job = j; dones = dones_of a.sites.items }) c.self.view_is (whole_scripts j c.self.invariant.is_job c.item_count_law.ensures c.whole_law.ensures)
