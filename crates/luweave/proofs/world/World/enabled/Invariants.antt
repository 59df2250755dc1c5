use Rattle.std.proofs.Common.{◌≢◌, ℕ, ◌<◌}
use Rattle.luworld.specs.declared.turn.Turn.TheVariants.{Moved}
use Rattle.luworld.specs.Systems.{turn}
use Rattle.luworld.specs.Jobs.{system_of}
use Rattle.luweave.proofs.world.World.enabled.Given as goal

abbrev pub invariant-loop-s : goal.invariant-loop-s
invariant-loop-s l = record {
  quiet : (r : ℕ) → r < l.s → turn (system_of l.self.job) l.self.dones r ≢ Moved;
}
