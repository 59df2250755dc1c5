use Rattle.lublock_kernels.proofs.Wholes.{sub_stands}
use Rattle.lublock_kernels.proofs.laws.sub_law.Goals as goal

pub returns : goal.returns
returns c = λ sub part less flat inputs σ t len b upto known supposed stands. sub_stands sub part less flat inputs σ t len b upto known supposed stands
