use Rattle.std.proofs.Common.{◌∙◌, sym, ap}
use Rattle.std.specs.Prelude.{option_map}
use Rattle.lutree.specs.Tree.{node_view, view}
use Rattle.lustat_rules.specs.ClockRefs.{the_clock}
use Rattle.lustat_clocks.proofs.Anchored.{only_base, only_anchor}
use Rattle.lustat_clocks.proofs.anchor.fits_some.Goals as goal

pub returns-in-None : goal.returns-in-None
returns-in-None c =
    only_base (node_view c.args.scope.now) (view c.args.e.now) c.fits.result
    (sym c.anchor_of.ensures ∙ ap (λ o. option_map the_clock o) c.in-None.is) c.fits.ensures

pub returns-in-Some : goal.returns-in-Some
returns-in-Some c =
    only_anchor (node_view c.args.scope.now) (view c.args.e.now) (the_clock c.in-Some.k) c.fits-in-Some.result
    (sym c.anchor_of.ensures ∙ ap (λ o. option_map the_clock o) c.in-Some.is) c.fits-in-Some.ensures
