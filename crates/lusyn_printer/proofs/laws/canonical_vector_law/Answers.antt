use Rattle.lusyn_printer.proofs.Vectors.{canonical_vector}
use Rattle.lusyn_printer.proofs.laws.canonical_vector_law.Goals as goal

pub returns : goal.returns
returns c = canonical_vector
