use Rattle.std.proofs.Common.{refl}
use Rattle.lusyn.proofs.error.SynErrorFromParseError.from.Goals as goal

pub returns-in-Syntax : goal.returns-in-Syntax
returns-in-Syntax c = rw c.in-Syntax.is refl
