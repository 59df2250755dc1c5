use Rattle.luworld.proofs.Jobs.{good_reached}
use Rattle.luworld.proofs.laws.counts_law.Goals as goal

pub returns : goal.returns
returns c = λ sys wired schedule link. ((good_reached sys wired schedule).taken_put link, (good_reached sys wired schedule).bounded link)
