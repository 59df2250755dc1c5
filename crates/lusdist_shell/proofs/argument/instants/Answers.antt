use Rattle.std.proofs.Common.{rules}
use Rattle.lusdist_shell.proofs.argument.instants.Goals as goal

pub returns-clause-rule : goal.returns-clause-rule
returns-clause-rule c = grind rules
