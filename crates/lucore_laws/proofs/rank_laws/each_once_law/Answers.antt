use Rattle.lucore_laws.proofs.Orders.{each_once}
use Rattle.lucore_laws.proofs.rank_laws.each_once_law.Goals as goal

pub returns : goal.returns
returns c = each_once
