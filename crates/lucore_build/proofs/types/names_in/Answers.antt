use Rattle.std.proofs.Common.{arith}
use Rattle.std.proofs.lemmas.Grind.{common_steps}
use Rattle.lucore_build.proofs.types.names_in.Goals as goal

pub loop-declared-preserved : goal.loop-declared-preserved
loop-declared-preserved c = grind (arith, common_steps)
