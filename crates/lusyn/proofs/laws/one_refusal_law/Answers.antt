use Rattle.lusyn.proofs.OneRefusal.{one_refusal}
use Rattle.lusyn.proofs.laws.one_refusal_law.Goals as goal

pub returns : goal.returns
returns c = λ text one other h k. one_refusal text one other h k
