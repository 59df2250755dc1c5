use Rattle.std.proofs.Common.{◌∙◌, sym, Some, None}
use Rattle.lustat_rules.proofs.Placed.{clock_at_place}
use Rattle.lustat_rules.proofs.scope.Scope.placed_clock.Goals as goal

pub returns-in-None-clause-clock : goal.returns-in-None-clause-clock
returns-in-None-clause-clock c = clock_at_place c.args.self.now c.args.name.now None (sym c.in-None.is ∙ c.place.ensures)

pub returns-in-Some-clause-clock : goal.returns-in-Some-clause-clock
returns-in-Some-clause-clock c =
    c.clock_at.ensures.clock ∙ clock_at_place c.args.self.now c.args.name.now (Some c.in-Some.place) (sym c.in-Some.is ∙ c.place.ensures)
