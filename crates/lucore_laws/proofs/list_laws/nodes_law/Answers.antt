use Rattle.lucore_laws.proofs.ListNodes.{nodes_agree}
use Rattle.lucore_laws.proofs.list_laws.nodes_law.Goals as goal

pub returns : goal.returns
returns c = nodes_agree
