use Rattle.lublock_kernels.proofs.Rights.{goes_out}
use Rattle.lublock_kernels.proofs.laws.join_law.Goals as goal

pub returns : goal.returns
returns c = λ part flat inputs σ t len b is_flat fit sol within is_part begins right. goes_out part flat inputs σ t len b is_flat fit sol within begins is_part right
