use Rattle.luworld.proofs.Enabled.{never_stuck}
use Rattle.luworld.proofs.laws.never_stuck_law.Goals as goal

pub returns : goal.returns
returns c = never_stuck
