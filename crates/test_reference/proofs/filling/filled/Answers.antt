use Rattle.std.proofs.Common.{◌∙◌}
use Rattle.test_reference.proofs.FilledCells.{filled_next}
use Rattle.test_reference.proofs.filling.filled.Goals as goal

pub loop-instant-preserved : goal.loop-instant-preserved
loop-instant-preserved c = record {
  filled = filled_next c.args.flat.now c.args.inputs.now c.flows.ensures.flat.ordered c.fill_instant.new.grid c.loop-instant.instant c.fill_instant.ensures.filled;
  instants = c.fill_instant.ensures.instants ∙ c.loop-instant.invariant.instants;
}
