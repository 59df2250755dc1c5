use Rattle.std.proofs.Common.{◌≡◌}
use Rattle.lulist.proofs.station.ListStation.go.Given as goal

abbrev pub invariant-loop-step : goal.invariant-loop-step
invariant-loop-step l = l.self ≡ l.fn.self
