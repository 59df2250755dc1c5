use Rattle.std.proofs.Common.{◌≡◌, ◌++◌, flat_map, string_bytes}
use Rattle.std.specs.List.{range_with_len}
use Rattle.luchart.specs.Signals.{signals_view}
use Rattle.luchart.specs.Chronogram.{strip}
use Rattle.luchart.proofs.chart.put_strips.Given as goal

abbrev pub invariant-loop-k : goal.invariant-loop-k
invariant-loop-k l = string_bytes l.text ≡ string_bytes l.initial.text ++ flat_map (strip l.layout (signals_view l.signals)) (range_with_len 0 l.k)
