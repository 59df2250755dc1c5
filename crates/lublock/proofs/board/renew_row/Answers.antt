use Rattle.std.proofs.lemmas.Grind.{common_steps}
use Rattle.std.proofs.Common.{arith}
use Rattle.lublock.proofs.board.renew_row.Goals as goal

pub returns-then-len-gt0-clause-first : goal.returns-then-len-gt0-clause-first
returns-then-len-gt0-clause-first c = grind (arith, common_steps)
