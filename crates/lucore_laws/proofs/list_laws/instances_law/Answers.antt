use Rattle.lucore_laws.proofs.Whole.{instances_law}
use Rattle.lucore_laws.proofs.list_laws.instances_law.Goals as goal

pub returns : goal.returns
returns c = instances_law
