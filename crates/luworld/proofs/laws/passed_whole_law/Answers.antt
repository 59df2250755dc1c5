use Rattle.luworld.proofs.PassedWhole.{passed_whole}
use Rattle.luworld.proofs.laws.passed_whole_law.Goals as goal

pub returns : goal.returns
returns c = λ plan ok fine world link listed. passed_whole plan ok fine world link listed
