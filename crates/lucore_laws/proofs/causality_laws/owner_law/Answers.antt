use Rattle.lucore_laws.proofs.ToSource.{owners_own}
use Rattle.lucore_laws.proofs.causality_laws.owner_law.Goals as goal

pub returns : goal.returns
returns c = owners_own
