use Rattle.lucore_laws.proofs.Orders.{reads_first}
use Rattle.lucore_laws.proofs.rank_laws.reads_first_law.Goals as goal

pub returns : goal.returns
returns c = λ rows order p x y ranked at h. reads_first rows order ranked p x y at h
