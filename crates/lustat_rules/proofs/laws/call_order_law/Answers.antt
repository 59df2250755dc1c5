use Rattle.lustat_rules.proofs.Calling.{call_order}
use Rattle.lustat_rules.proofs.laws.call_order_law.Goals as goal

pub returns : goal.returns
returns c = call_order
