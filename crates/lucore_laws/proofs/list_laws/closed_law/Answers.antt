use Rattle.lucore_laws.proofs.Closed.{closed}
use Rattle.lucore_laws.proofs.list_laws.closed_law.Goals as goal

pub returns : goal.returns
returns c = closed
