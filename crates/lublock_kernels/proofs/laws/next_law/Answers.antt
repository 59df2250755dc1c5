use Rattle.lublock_kernels.proofs.Wholes.{next_begins}
use Rattle.lublock_kernels.proofs.laws.next_law.Goals as goal

pub returns : goal.returns
returns c = λ part flat inputs σ t len old new right follows. next_begins part flat inputs σ t len old new right follows
