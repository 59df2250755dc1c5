use Rattle.std.proofs.Common.{◌≡◌}
use Rattle.luflow.specs.Streams.{clock_at, ticked}
use Rattle.test_reference.specs.Grids.{held}
use Rattle.test_reference.proofs.looking.ticked.Given as goal

abbrev pub invariant-loop-t : goal.invariant-loop-t
invariant-loop-t l = l.was ≡ ticked (clock_at l.inputs (held l.grid) l.clock) l.t
