use Rattle.lusyn.proofs.Places.{two_nodes-places}
use Rattle.lusyn.proofs.laws.places_vector_law.Goals as goal

pub returns : goal.returns
returns c = two_nodes-places
