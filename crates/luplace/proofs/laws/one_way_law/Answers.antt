use Rattle.luplace.proofs.Unique.{one_way}
use Rattle.luplace.proofs.laws.one_way_law.Goals as goal

pub returns : goal.returns
returns c = one_way
