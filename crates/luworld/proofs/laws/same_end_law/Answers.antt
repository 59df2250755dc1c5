use Rattle.luworld.specs.Systems.{reached}
use Rattle.luworld.proofs.Jobs.{good_reached}
use Rattle.luworld.proofs.Ends.{same_end}
use Rattle.luworld.proofs.laws.same_end_law.Goals as goal

pub returns : goal.returns
returns c = λ sys wired one other quiet quiet'. same_end sys wired (reached sys one) (reached sys other) (good_reached sys wired one) (good_reached sys wired other) quiet quiet'
