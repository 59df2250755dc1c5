use Rattle.std.proofs.Common.{◌≡◌, ◌++◌, flat_map, take, string_bytes}
use Rattle.luchart.specs.Signals.{signals_view}
use Rattle.luchart.specs.Chronogram.{row}
use Rattle.luchart.proofs.chart.put_rows.Given as goal

abbrev pub invariant-loop-signal : goal.invariant-loop-signal
invariant-loop-signal l = string_bytes l.text ≡ string_bytes l.initial.text ++ flat_map (row l.layout l.start l.count) (signals_view (take l.signal-index l.signals))
