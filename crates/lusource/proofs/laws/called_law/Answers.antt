use Rattle.lusource.proofs.Instances as instances
use Rattle.lusource.proofs.laws.called_law.Goals as goal

pub returns : goal.returns
returns c = instances.called_law
