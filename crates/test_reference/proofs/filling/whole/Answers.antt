use Rattle.std.proofs.Common.{◌∙◌, ap}
use Rattle.luworld.specs.Needs.{PlanView}
use Rattle.test_reference.proofs.FilledCells.{whole_of}
use Rattle.test_reference.proofs.filling.whole.Goals as goal

pub returns : goal.returns
returns c =
    whole_of c.args.job.now c.flat.result.now c.inputs.result.now c.instants.result c.filled.result c.plan.ensures.run (c.flat.ensures.flat ∙ ap (λ (p : PlanView). p.flat) c.plan.ensures.plan) c.inputs.ensures c.instants.ensures c.filled.ensures.filled c.filled.ensures.sized
