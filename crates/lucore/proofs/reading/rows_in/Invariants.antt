use Rattle.std.proofs.Common.{◌≡◌, map, take}
use Rattle.luflow.specs.Program.{reads}
use Rattle.lucore.proofs.reading.rows_in.Given as goal

abbrev pub invariant-loop-flow : goal.invariant-loop-flow
invariant-loop-flow l = l.rows.items ≡ map reads (take l.flow-index l.flows)
