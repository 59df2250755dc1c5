use Rattle.std.proofs.Common.{sym, ap, ◌∙◌}
use Rattle.std.specs.Prelude.{option_map}
use Rattle.lutree.specs.Tree.{node_view}
use Rattle.lustat_rules.specs.ClockRefs.{placed_view}
use Rattle.lucore_build.proofs.Named.{clock_there, no_clock}
use Rattle.lucore_build.proofs.context.variable_clock.Goals as goal

pub returns-in-Some-clause-clock : goal.returns-in-Some-clause-clock
returns-in-Some-clause-clock c =
    sym (clock_there (node_view c.args.scope.now) c.args.name.now (placed_view c.in-Some.clock) (sym c.placed_clock.ensures.clock ∙ ap (option_map placed_view) c.in-Some.is))

pub returns-in-None-clause-clock : goal.returns-in-None-clause-clock
returns-in-None-clause-clock c =
    c.placed.ensures.clock ∙ sym (no_clock (node_view c.args.scope.now) c.args.name.now (sym c.placed_clock.ensures.clock ∙ ap (option_map placed_view) c.in-None.is))
