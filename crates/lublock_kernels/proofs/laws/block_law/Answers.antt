use Rattle.lublock_kernels.proofs.Rights.{solved_is_right}
use Rattle.lublock_kernels.proofs.laws.block_law.Goals as goal

pub returns : goal.returns
returns c = λ flat inputs σ t len b is_flat fit sol within begins solved. solved_is_right flat inputs σ t len b is_flat fit sol within begins solved
