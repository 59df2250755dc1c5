use Rattle.lubase.proofs.Either.{order_or_cycle}
use Rattle.lubase.proofs.laws.order_or_cycle_law.Goals as goal

pub returns : goal.returns
returns c = order_or_cycle
