use Rattle.std.proofs.Common.{arith}
use Rattle.std.proofs.lemmas.Str.Pattern.{split_parts}
use Rattle.luchart.proofs.ScopeLaws.{parted_scope, parted_own, plain_scope, plain_own}
use Rattle.luchart.proofs.scopes.first_scope.Goals as goal

pub returns-clause-scope : goal.returns-clause-scope
returns-clause-scope c = parted_scope c.args.name.now c.split_once.result (split_parts 46 c.args.name.now c.split_once.result c.split_once.ensures.cases (omega arith))

pub returns-clause-own : goal.returns-clause-own
returns-clause-own c = parted_own c.args.name.now c.split_once.result (split_parts 46 c.args.name.now c.split_once.result c.split_once.ensures.cases (omega arith))

pub returns-clause-none : goal.returns-clause-none
returns-clause-none c = plain_scope c.args.name.now c.split_once.result (split_parts 46 c.args.name.now c.split_once.result c.split_once.ensures.cases (omega arith))

pub returns-clause-whole : goal.returns-clause-whole
returns-clause-whole c = plain_own c.args.name.now c.split_once.result (split_parts 46 c.args.name.now c.split_once.result c.split_once.ensures.cases (omega arith))
