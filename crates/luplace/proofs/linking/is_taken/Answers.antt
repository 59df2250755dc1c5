use Rattle.std.proofs.lemmas.Grind.{common_steps}
use Rattle.std.proofs.Common.{arith}
use Rattle.luplace.proofs.linking.is_taken.Goals as goal

pub returns-then-is_marked_at : goal.returns-then-is_marked_at
returns-then-is_marked_at c = grind (arith, common_steps)
