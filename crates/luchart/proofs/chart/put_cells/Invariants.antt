use Rattle.std.proofs.Common.{◌≡◌, ◌++◌, flat_map, string_bytes}
use Rattle.std.specs.List.{range_with_len}
use Rattle.luchart.specs.Signals.{signal_view}
use Rattle.luchart.specs.Chronogram.{cell}
use Rattle.luchart.proofs.chart.put_cells.Given as goal

abbrev pub invariant-loop-k : goal.invariant-loop-k
invariant-loop-k l = string_bytes l.text ≡ string_bytes l.initial.text ++ flat_map (cell l.width (signal_view l.signal)) (range_with_len l.start l.k)
