use Rattle.lutree.specs.Tree.{node_view, view}
use Rattle.lustat_rules.specs.ClockRefs.{placed_view}
use Rattle.lustat_rules.proofs.Fitting.{inside, outside}
use Rattle.lustat_clocks.proofs.fit.fits_placed.Goals as goal

pub returns : goal.returns
returns c =
    (λ h. outside (node_view c.args.scope.now) (view c.args.e.now) (placed_view c.args.k) (c.fits_inside.ensures.0 h), λ h. c.fits_inside.ensures.1 (inside h))
