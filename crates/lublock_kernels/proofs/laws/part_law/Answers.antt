use Rattle.lublock_kernels.proofs.Rights.{part_is_right}
use Rattle.lublock_kernels.proofs.laws.part_law.Goals as goal

pub returns : goal.returns
returns c = λ part flat inputs σ t len b is_flat fit sol within is_part begins solved. part_is_right part flat inputs σ t len b is_flat fit sol within begins is_part solved
