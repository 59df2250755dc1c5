use Rattle.lustat_init.proofs.Sourcing.{there, back}
use Rattle.lustat_init.proofs.laws.sources_law.Goals as goal

pub returns : goal.returns
returns c = λ a e. (there a e, back a e)
