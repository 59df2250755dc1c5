use Rattle.lucore_laws.proofs.There as there
use Rattle.lucore_laws.proofs.list_laws.flat_list_law.Goals as goal

pub returns : goal.returns
returns c = there.flat_list_law
