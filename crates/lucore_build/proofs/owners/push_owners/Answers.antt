use Rattle.std.proofs.Common.{arith}
use Rattle.std.proofs.lemmas.Grind.{common_steps}
use Rattle.lucore_build.proofs.owners.push_owners.Goals as goal

pub loop-d-preserved : goal.loop-d-preserved
loop-d-preserved c = grind (arith, common_steps)
