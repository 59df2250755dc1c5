use Rattle.std.proofs.Common.{arith}
use Rattle.lusdist_answers.proofs.Outcomes.{listed_from_flows, some_variable}
use Rattle.lusdist_answers.proofs.evaluating.listed_columns.Goals as goal

pub deep_columns-requires-clause-some : goal.deep_columns-requires-clause-some
deep_columns-requires-clause-some c =
    let some = some_variable c.args.flat.now.variables c.requires.some in
    let enough = c.requires.list.0 in
    omega (arith, some, enough)

pub deep_columns-requires-clause-inside : goal.deep_columns-requires-clause-inside
deep_columns-requires-clause-inside c = c.requires.list.1

pub returns-clause-columns : goal.returns-clause-columns
returns-clause-columns c = listed_from_flows c.deep_columns.result c.args.flat.now c.args.inputs.now c.args.list.now c.deep_columns.ensures.columns
