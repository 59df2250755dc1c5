use Rattle.lusyn.proofs.Exclusive.{not_refused}
use Rattle.lusyn.proofs.laws.not_refused_law.Goals as goal

pub returns : goal.returns
returns c = λ text found refusal s h. not_refused text found refusal s h
