use Rattle.lucore_laws.proofs.ToSource.{to_source}
use Rattle.lucore_laws.proofs.ToFlat.{to_flat}
use Rattle.lucore_laws.proofs.causality_laws.cause_law.Goals as goal

pub returns : goal.returns
returns c p main flat accepted some out = (to_source p main flat accepted some out, to_flat p main flat accepted some out)
