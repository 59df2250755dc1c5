use Rattle.luworld.proofs.Enabled.{enabled_of}
use Rattle.luworld.proofs.laws.enabled_law.Goals as goal

pub returns : goal.returns
returns c = λ sys wired world. enabled_of sys world wired
