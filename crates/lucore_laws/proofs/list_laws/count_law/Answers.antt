use Rattle.lucore_laws.proofs.Counting as counting
use Rattle.lucore_laws.proofs.list_laws.count_law.Goals as goal

pub returns : goal.returns
returns c = counting.count_law
