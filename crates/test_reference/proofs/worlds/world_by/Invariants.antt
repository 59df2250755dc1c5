use Rattle.std.proofs.Common.{◌≡◌, drop}
use Rattle.luworld.specs.Jobs.{system_of}
use Rattle.luworld.specs.Systems.{run, reached}
use Rattle.test_reference.proofs.worlds.world_by.Given as goal

abbrev pub invariant-loop-site : goal.invariant-loop-site
invariant-loop-site l = run (system_of l.job) l.world.items (drop l.site-index l.turns) ≡ reached (system_of l.job) l.turns
