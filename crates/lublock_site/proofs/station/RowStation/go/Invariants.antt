use Rattle.std.proofs.Common.{◌≡◌}
use Rattle.lublock_site.proofs.station.RowStation.go.Given as goal

abbrev pub invariant-loop-step : goal.invariant-loop-step
invariant-loop-step l = l.self ≡ l.fn.self
