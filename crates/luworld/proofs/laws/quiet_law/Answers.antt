use Rattle.luworld.specs.Systems.{reached}
use Rattle.luworld.proofs.Jobs.{good_reached}
use Rattle.luworld.proofs.Ends.{reachable_done, none_moves}
use Rattle.luworld.proofs.laws.quiet_law.Goals as goal

pub returns : goal.returns
returns c = λ sys wired schedule. (λ quiet. reachable_done sys wired (reached sys schedule) quiet, λ all. none_moves sys wired (reached sys schedule) (good_reached sys wired schedule) all)
