use Rattle.lusource.proofs.FaultPaths.{fault_paths}
use Rattle.lusource.proofs.laws.fault_paths_law.Goals as goal

pub returns : goal.returns
returns c = fault_paths
