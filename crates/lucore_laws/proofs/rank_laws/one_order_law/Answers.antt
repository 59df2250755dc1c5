use Rattle.lucore_laws.proofs.Orders.{one_order}
use Rattle.lucore_laws.proofs.rank_laws.one_order_law.Goals as goal

pub returns : goal.returns
returns c = one_order
