use Rattle.std.proofs.Common.{arith}
use Rattle.std.proofs.lemmas.Grind.{common_steps}
use Rattle.lusyn_parser.proofs.pieces.parted.Goals as goal

pub loop-branch-preserved : goal.loop-branch-preserved
loop-branch-preserved c = grind (arith, common_steps)
