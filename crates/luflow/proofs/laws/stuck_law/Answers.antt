use Rattle.luflow.proofs.Tidied.{stuck_broken}
use Rattle.luflow.proofs.laws.stuck_law.Goals as goal

pub returns : goal.returns
returns c = stuck_broken
