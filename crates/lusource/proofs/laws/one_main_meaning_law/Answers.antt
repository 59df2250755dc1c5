use Rattle.lusource.proofs.Meanings.{one_main_meaning}
use Rattle.lusource.proofs.laws.one_main_meaning_law.Goals as goal

pub returns : goal.returns
returns c = λ program main inputs flat ordered first agrees. one_main_meaning program main inputs flat ordered agrees first
