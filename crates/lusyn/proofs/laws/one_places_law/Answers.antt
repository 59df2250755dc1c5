use Rattle.lusyn.proofs.Places.{one_places}
use Rattle.lusyn.proofs.laws.one_places_law.Goals as goal

pub returns : goal.returns
returns c = λ text one other x y. one_places text one other x y
