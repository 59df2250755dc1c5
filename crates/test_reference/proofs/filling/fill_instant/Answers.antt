use Rattle.std.proofs.Common.{Some, ap, ◌∙◌}
use Rattle.luflow.specs.declared.form.Flow.{Flow}
use Rattle.luflow.specs.Solution.{says}
use Rattle.test_reference.specs.Grids.{held}
use Rattle.test_reference.proofs.FilledCells.{filled_by}
use Rattle.test_reference.proofs.filling.fill_instant.Goals as goal

pub loop-place-preserved : goal.loop-place-preserved
loop-place-preserved c = record {
  filled = filled_by c.args.flat.now c.args.inputs.now c.flows-flows.ensures.flat.ordered c.loop-place.grid c.set.new.self c.args.instant c.loop-place.place-index c.flows-flows.result.now c.rank-place-items.result.now _ c.says-mark.result c.flows-flows.ensures.flows c.rank-place-items.ensures c.loop-place.invariant.filled c.loop-place-test.true (c.says-mark.ensures ∙ ap (λ (f : Flow). says c.args.inputs.now (held c.loop-place.grid) (Some f) c.args.instant) c.index-flows-place.is) c.set.ensures;
  instants = c.set.ensures.instants ∙ c.loop-place.invariant.instants;
}
