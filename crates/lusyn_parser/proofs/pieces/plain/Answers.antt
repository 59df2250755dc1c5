use Rattle.std.proofs.Common.{arith}
use Rattle.std.proofs.lemmas.Grind.{common_steps}
use Rattle.lusyn_parser.proofs.pieces.plain.Goals as goal

pub loop-placed-preserved : goal.loop-placed-preserved
loop-placed-preserved c = grind (arith, common_steps)
