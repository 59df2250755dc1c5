use Rattle.lusource.proofs.FaultVectors.{fault_vectors}
use Rattle.lusource.proofs.laws.fault_vectors_law.Goals as goal

pub returns : goal.returns
returns c = fault_vectors
