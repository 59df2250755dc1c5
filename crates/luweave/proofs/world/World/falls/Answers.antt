use Rattle.std.proofs.Common.{◌≡◌, ℕ, ◌<◌}
use Rattle.luworld.specs.declared.turn.Turn.TheVariants.{Moved}
use Rattle.luworld.specs.Systems.{turn, step}
use Rattle.luworld.specs.Jobs.{system_of}
use Rattle.luworld.specs.WorldViews.{WorldView}
use Rattle.luweave.specs.Worlds.{left_of, dones_of}
use Rattle.luweave.proofs.Worlds.{along}
use Rattle.luweave.proofs.Finishing.{left_falls}
use Rattle.luweave.proofs.world.World.falls.Goals as goal

-- each turn that moves leaves fewer items
abbrev Falls : WorldView → Type 0
Falls x = (s : ℕ) → turn (system_of x.job) x.dones s ≡ Moved → left_of x.job (step (system_of x.job) x.dones s) < left_of x.job x.dones

pub returns : goal.returns
returns c =
    let a = c.self.inside in
    let j = a.first.value.job in
    along Falls c.args.self.now (record { job = j; dones = dones_of a.sites.items }) c.self.view_is (left_falls j a.sites.items a.link_queues.items a.capacity c.self.invariant)
