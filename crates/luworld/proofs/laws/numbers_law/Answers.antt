use Rattle.luworld.proofs.Enabled.{numbers_are}
use Rattle.luworld.proofs.laws.numbers_law.Goals as goal

pub returns : goal.returns
returns c = numbers_are
