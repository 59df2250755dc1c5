use Rattle.lusource.proofs.Instances as instances
use Rattle.lusource.proofs.laws.instance_law.Goals as goal

pub returns : goal.returns
returns c = instances.instance_law
