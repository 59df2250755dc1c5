use Rattle.luflow.proofs.Fitting.{fits}
use Rattle.luflow.proofs.laws.fits_law.Goals as goal

pub returns : goal.returns
returns c = fits
