use Rattle.luworld.proofs.Wired.{wired}
use Rattle.luworld.proofs.laws.wired_law.Goals as goal

pub returns : goal.returns
returns c = wired
