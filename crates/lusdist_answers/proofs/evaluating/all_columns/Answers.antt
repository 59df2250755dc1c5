use Rattle.lusdist_answers.proofs.Outcomes.{columns_from, some_variable}
use Rattle.lusdist_answers.proofs.evaluating.all_columns.Goals as goal

pub whole_columns-requires-clause-some : goal.whole_columns-requires-clause-some
whole_columns-requires-clause-some c = some_variable c.args.flat.now.variables c.requires.some

pub returns-clause-columns : goal.returns-clause-columns
returns-clause-columns c = columns_from c.whole_columns.result c.args.flat.now c.args.inputs.now c.whole_columns.ensures.columns
