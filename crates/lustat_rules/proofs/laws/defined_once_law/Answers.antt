use Rattle.lustat_rules.proofs.Once.{defined_once}
use Rattle.lustat_rules.proofs.laws.defined_once_law.Goals as goal

pub returns : goal.returns
returns c = λ n anew. defined_once n anew
