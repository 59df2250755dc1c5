use Rattle.std.proofs.Common.{◌≡◌, map}
use Rattle.std.specs.List.{range_with_len}
use Rattle.luflow.specs.Tables.{outputs_view}
use Rattle.luchart.specs.Signals.{signal_at, signals_view}
use Rattle.luchart.proofs.signal.signals_of.Given as goal

abbrev pub invariant-loop-i : goal.invariant-loop-i
invariant-loop-i l = signals_view l.signals.items ≡ map (signal_at l.types l.kinds (outputs_view l.columns)) (range_with_len 0 l.i)
