use Rattle.lublock_kernels.proofs.Wholes.{whole_right_in}
use Rattle.lublock_kernels.proofs.laws.whole_law.Goals as goal

pub returns : goal.returns
returns c = λ part flat inputs σ t len rows spans is_flat fit sol within is_part complete close stands. whole_right_in part flat inputs σ t len rows spans is_flat fit sol within is_part complete close stands
