use Rattle.luworld.proofs.Totals.{moved_le, moved_all, all_moved}
use Rattle.luworld.proofs.laws.moves_law.Goals as goal

pub returns : goal.returns
returns c = λ sys wired schedule. (moved_le sys wired schedule, (moved_all sys wired schedule, all_moved sys wired schedule))
