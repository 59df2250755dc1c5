use Rattle.std.proofs.Common.{◌≡◌}
use Rattle.luflow.specs.Streams.{before}
use Rattle.test_reference.specs.Grids.{held}
use Rattle.test_reference.proofs.looking.before.Given as goal

abbrev pub invariant-loop-t : goal.invariant-loop-t
invariant-loop-t l = l.last ≡ before (held l.grid l.flow) l.t
