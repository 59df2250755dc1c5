use Rattle.luworld.proofs.Turns.{step_counts}
use Rattle.luworld.proofs.laws.step_counts_law.Goals as goal

pub returns : goal.returns
returns c = step_counts
