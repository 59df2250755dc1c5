use Rattle.std.proofs.lemmas.Grind.{common_steps}
use Rattle.std.proofs.Common.{arith}
use Rattle.lutab.proofs.rows.fault_of.Goals as goal

pub returns-else-is_bad_row : goal.returns-else-is_bad_row
returns-else-is_bad_row c = grind (arith, common_steps)
