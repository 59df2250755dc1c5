use Rattle.lusdist_answers.proofs.Outcomes.{outputs_from}
use Rattle.lusdist_answers.proofs.evaluating.output_columns.Goals as goal

pub returns-clause-columns : goal.returns-clause-columns
returns-clause-columns c = outputs_from c.block_outputs.result c.args.flat.now c.args.inputs.now c.block_outputs.ensures.outputs
