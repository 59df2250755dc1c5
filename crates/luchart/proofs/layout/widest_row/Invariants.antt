use Rattle.std.proofs.Common.{◌≡◌, ◌≤◌, map, take}
use Rattle.luchart.specs.Pieces.{largest}
use Rattle.luchart.specs.Signals.{signals_view}
use Rattle.luchart.specs.Chronogram.{row_breadth, widest_cell}
use Rattle.luchart.proofs.layout.widest_row.Given as goal

abbrev pub invariant-loop-signal : goal.invariant-loop-signal
invariant-loop-signal l = record {
  so_far : l.widest ≡ largest (map (row_breadth l.first l.count) (signals_view (take l.signal-index l.signals)));
  narrow : l.widest ≤ widest_cell;
}
