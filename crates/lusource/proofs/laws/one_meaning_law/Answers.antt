use Rattle.lusource.proofs.Meanings.{one_meaning}
use Rattle.lusource.proofs.laws.one_meaning_law.Goals as goal

pub returns : goal.returns
returns c = λ program main inputs flat ordered agrees flows. one_meaning program main inputs flat ordered agrees flows
