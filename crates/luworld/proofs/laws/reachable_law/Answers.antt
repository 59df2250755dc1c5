use Rattle.luworld.proofs.Jobs.{good_reached}
use Rattle.luworld.proofs.laws.reachable_law.Goals as goal

pub returns : goal.returns
returns c = λ sys wired schedule. (good_reached sys wired schedule).reachable
