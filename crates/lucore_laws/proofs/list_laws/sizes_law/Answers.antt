use Rattle.lucore_laws.proofs.There as there
use Rattle.lucore_laws.proofs.list_laws.sizes_law.Goals as goal

pub returns : goal.returns
returns c = there.sizes_law
