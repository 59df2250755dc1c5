use Rattle.lusource.proofs.RunSourced.{says_the_same}
use Rattle.lusource.proofs.laws.source_law.Goals as goal

pub returns : goal.returns
returns c = λ job σ ok meant. says_the_same job σ ok meant
