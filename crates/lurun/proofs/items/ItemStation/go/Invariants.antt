use Rattle.lurun.specs.Items.{IsSameSite}
use Rattle.lurun.proofs.items.ItemStation.go.Given as goal

abbrev pub invariant-loop-step : goal.invariant-loop-step
invariant-loop-step g l = IsSameSite l.initial.self.at l.self.at
