use Rattle.std.proofs.Common.{◌≡◌, drop}
use Rattle.luworld.specs.Systems.{run}
use Rattle.luworld.specs.Jobs.{system_of}
use Rattle.luweave.proofs.world.replay.Given as goal

abbrev pub invariant-loop-site : goal.invariant-loop-site
invariant-loop-site l = record {
  job : l.world.job ≡ l.initial.world.job;
  dones : run (system_of l.world.job) l.world.dones (drop l.site-index l.schedule) ≡ run (system_of l.initial.world.job) l.initial.world.dones l.schedule;
}
