use Rattle.lubase.proofs.Ordering.{order_excludes_cycle}
use Rattle.lubase.proofs.laws.order_excludes_cycle_law.Goals as goal

pub returns : goal.returns
returns c = order_excludes_cycle
