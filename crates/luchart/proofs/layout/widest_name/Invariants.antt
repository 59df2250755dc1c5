use Rattle.std.proofs.Common.{◌≡◌, ◌≤◌, map, take}
use Rattle.luchart.specs.Pieces.{largest}
use Rattle.luchart.specs.Signals.{Signal, signals_view}
use Rattle.luchart.specs.Chronogram.{room_for, widest_cell}
use Rattle.luchart.proofs.layout.widest_name.Given as goal

abbrev pub invariant-loop-signal : goal.invariant-loop-signal
invariant-loop-signal l = record {
  so_far : l.widest ≡ largest (map (λ (s : Signal). room_for s.name) (signals_view (take l.signal-index l.signals)));
  narrow : l.widest ≤ widest_cell;
}
