use Rattle.lustat_rules.proofs.Raising.{least_meets}
use Rattle.lustat_rules.proofs.laws.least_decides_law.Goals as goal

pub returns : goal.returns
returns c = λ n a least has. least_meets n a least has
