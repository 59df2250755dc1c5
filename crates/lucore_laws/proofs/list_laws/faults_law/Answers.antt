use Rattle.lucore_laws.proofs.NodeFaults.{faults_reported}
use Rattle.lucore_laws.proofs.list_laws.faults_law.Goals as goal

pub returns : goal.returns
returns c = faults_reported
