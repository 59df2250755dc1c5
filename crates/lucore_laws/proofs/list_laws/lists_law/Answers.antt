use Rattle.lucore_laws.proofs.There as there
use Rattle.lucore_laws.proofs.list_laws.lists_law.Goals as goal

pub returns : goal.returns
returns c = there.lists_law
