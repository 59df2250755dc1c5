use Rattle.std.proofs.lemmas.Grind.{common_steps}
use Rattle.std.proofs.Common.{arith}
use Rattle.lutab.proofs.reading.is_too_long.Goals as goal

pub returns-then-bytes-gt-LONGEST_TABLE : goal.returns-then-bytes-gt-LONGEST_TABLE
returns-then-bytes-gt-LONGEST_TABLE c = grind (arith, common_steps)
