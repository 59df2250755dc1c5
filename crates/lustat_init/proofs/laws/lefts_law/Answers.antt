use Rattle.lustat_init.proofs.Rowing.{lefts}
use Rattle.lustat_init.proofs.laws.lefts_law.Goals as goal

pub returns : goal.returns
returns c = lefts
