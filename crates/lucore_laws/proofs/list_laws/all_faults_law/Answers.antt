use Rattle.lucore_laws.proofs.NodeFaults.{faults_found}
use Rattle.lucore_laws.proofs.list_laws.all_faults_law.Goals as goal

pub returns : goal.returns
returns c = faults_found
