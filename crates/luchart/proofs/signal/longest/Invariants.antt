use Rattle.std.proofs.Common.{◌≡◌, map, take, length}
use Rattle.luchart.specs.Pieces.{largest}
use Rattle.luchart.specs.Signals.{Signal, signals_view}
use Rattle.luchart.proofs.signal.longest.Given as goal

abbrev pub invariant-loop-signal : goal.invariant-loop-signal
invariant-loop-signal l = l.most ≡ largest (map (λ (s : Signal). length s.statuses) (signals_view (take l.signal-index l.signals)))
