use Rattle.lucore_laws.proofs.Whole.{agrees}
use Rattle.lucore_laws.proofs.list_laws.agrees_law.Goals as goal

pub returns : goal.returns
returns c = agrees
