use Rattle.luworld.proofs.Whole.{not_cut, all_reached}
use Rattle.luworld.proofs.laws.whole_law.Goals as goal

pub returns : goal.returns
returns c = λ plan ok fine site. (not_cut plan ok fine site, all_reached plan ok fine site)
