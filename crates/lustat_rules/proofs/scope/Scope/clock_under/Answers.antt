use Rattle.std.proofs.Common.{◌∙◌, sym, Some, None}
use Rattle.lustat_rules.specs.ClockRefs.{placed_view}
use Rattle.lustat_rules.proofs.Placed.{under_at_place}
use Rattle.lustat_rules.proofs.scope.Scope.clock_under.Goals as goal

pub returns-in-None-clause-clock : goal.returns-in-None-clause-clock
returns-in-None-clause-clock c = under_at_place c.args.self.now (placed_view c.args.k) None (sym c.in-None.is ∙ c.requires.at)

pub returns-in-Some-clause-clock : goal.returns-in-Some-clause-clock
returns-in-Some-clause-clock c =
    c.clock_at.ensures.clock ∙ under_at_place c.args.self.now (placed_view c.args.k) (Some c.in-Some.place) (sym c.in-Some.is ∙ c.requires.at)
