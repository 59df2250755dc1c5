use Rattle.std.proofs.Common.{◌≡◌}
use Rattle.luweave.specs.Worlds.{left_of, IsLater}
use Rattle.luweave.proofs.world.World.finish.Given as goal

abbrev pub invariant-loop-site : goal.invariant-loop-site
invariant-loop-site l = record {
  job : l.self.job ≡ l.initial.self.job;
  later : IsLater l.initial.self.job l.initial.self.dones l.self.dones;
}

abbrev pub decreases-loop-site : goal.decreases-loop-site
decreases-loop-site l = left_of l.self.job l.self.dones
