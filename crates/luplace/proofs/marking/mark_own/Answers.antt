use Rattle.std.proofs.lemmas.Grind.{common_steps}
use Rattle.std.proofs.Common.{arith}
use Rattle.luplace.proofs.marking.mark_own.Goals as goal

pub returns-then-own : goal.returns-then-own
returns-then-own c = grind (arith, common_steps)
