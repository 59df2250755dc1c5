use Rattle.std.proofs.lemmas.Grind.{common_steps}
use Rattle.std.proofs.Common.{arith}
use Rattle.test_reference.proofs.lists.messages_of.Goals as goal

pub returns-in-Broken : goal.returns-in-Broken
returns-in-Broken c = grind (arith, common_steps)

pub loop-mark-preserved-in-Known-Absent : goal.loop-mark-preserved-in-Known-Absent
loop-mark-preserved-in-Known-Absent c = grind (arith, common_steps)

pub loop-mark-preserved : goal.loop-mark-preserved
loop-mark-preserved c = grind (arith, common_steps)

pub returns : goal.returns
returns c = grind (arith, common_steps)
