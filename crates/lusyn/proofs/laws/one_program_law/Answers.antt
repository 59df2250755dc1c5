use Rattle.lusyn.proofs.Exclusive.{one_program}
use Rattle.lusyn.proofs.laws.one_program_law.Goals as goal

pub returns : goal.returns
returns c = λ text one other x y. one_program text one other x y
