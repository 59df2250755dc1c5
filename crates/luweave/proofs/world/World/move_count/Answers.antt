use Rattle.luweave.specs.Schedules.{EachMoveCount}
use Rattle.luweave.specs.Worlds.{dones_of}
use Rattle.luweave.proofs.Schedules.{move_count}
use Rattle.luweave.proofs.Worlds.{along}
use Rattle.luweave.proofs.world.World.move_count.Goals as goal

pub returns : goal.returns
returns c =
    let a = c.self.inside in
    let j = a.first.value.job in
    along (λ x. EachMoveCount x.job) c.args.self.now (record { job = j; dones = dones_of a.sites.items }) c.self.view_is (move_count j c.self.invariant.is_job c.item_count_law.ensures c.moves_law.ensures)
