use Rattle.std.proofs.lemmas.Grind.{common_steps}
use Rattle.std.proofs.Common.{arith}
use Rattle.lusyn.proofs.text.is_small.Goals as goal

pub returns-clause-small : goal.returns-clause-small
returns-clause-small c = grind (arith, common_steps)
