use Rattle.lucore_laws.proofs.Same.{one_list}
use Rattle.lucore_laws.proofs.list_laws.one_list_law.Goals as goal

pub returns : goal.returns
returns c = one_list
