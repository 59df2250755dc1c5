use Rattle.lustat_rules.proofs.Fitting.{inside, outside}
use Rattle.lustat_rules.proofs.laws.fits_law.Goals as goal

pub returns : goal.returns
returns c = λ n e k. (λ f. inside f, λ f. outside n e k f)
