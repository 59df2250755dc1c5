use Rattle.std.proofs.Common.{◌≡◌, ◌≤◌, map}
use Rattle.std.specs.List.{range_with_len}
use Rattle.luchart.specs.Pieces.{largest}
use Rattle.luchart.specs.Signals.{signal_view}
use Rattle.luchart.specs.Chronogram.{breadth_at, widest_cell}
use Rattle.luchart.proofs.layout.row_breadth.Given as goal

abbrev pub invariant-loop-k : goal.invariant-loop-k
invariant-loop-k l = record {
  so_far : l.widest ≡ largest (map (breadth_at (signal_view l.signal)) (range_with_len l.first l.k));
  narrow : l.widest ≤ widest_cell;
}
