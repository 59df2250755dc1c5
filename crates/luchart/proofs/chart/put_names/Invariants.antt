use Rattle.std.proofs.Common.{◌≡◌, ◌++◌, codes, flat_map, take, string_bytes}
use Rattle.luchart.specs.Signals.{Signal, signals_view}
use Rattle.luchart.proofs.chart.put_names.Given as goal

abbrev pub invariant-loop-signal : goal.invariant-loop-signal
invariant-loop-signal l = string_bytes l.text ≡ string_bytes l.initial.text ++ flat_map (λ (s : Signal). s.name ++ codes "\n") (signals_view (take l.signal-index l.signals))
