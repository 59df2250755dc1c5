use Rattle.std.proofs.lemmas.Grind.{common_steps}
use Rattle.std.proofs.Common.{arith}
use Rattle.lusdist_call.proofs.call_error.CallError.status.Goals as goal

pub returns-in_default-7 : goal.returns-in_default-7
returns-in_default-7 c = grind (arith, common_steps)
