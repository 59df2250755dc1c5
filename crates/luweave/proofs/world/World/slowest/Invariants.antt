use Rattle.std.proofs.Common.{◌≡◌}
use Rattle.luweave.specs.Slowest.{slowest_of}
use Rattle.luweave.proofs.world.World.slowest.Given as goal

abbrev pub invariant-loop-s : goal.invariant-loop-s
invariant-loop-s l = l.least ≡ slowest_of l.self l.s
