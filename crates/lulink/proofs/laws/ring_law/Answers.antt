use Rattle.lulink.proofs.Standing.{law}
use Rattle.lulink.proofs.laws.ring_law.Goals as goal

pub returns : goal.returns
returns c = law
