use Rattle.std.proofs.lemmas.Grind.{common_steps}
use Rattle.std.proofs.Common.{arith}
use Rattle.luweave.proofs.world.replay.Goals as goal

pub loop-site-preserved : goal.loop-site-preserved
loop-site-preserved c = grind (arith, common_steps)
