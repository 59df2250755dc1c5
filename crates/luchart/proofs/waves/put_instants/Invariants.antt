use Rattle.std.proofs.Common.{◌≡◌, ◌++◌, flat_map, string_bytes}
use Rattle.std.specs.List.{range_with_len}
use Rattle.luchart.specs.Signals.{signals_view}
use Rattle.luchart.specs.Dump.{moment}
use Rattle.luchart.proofs.waves.put_instants.Given as goal

abbrev pub invariant-loop-instant : goal.invariant-loop-instant
invariant-loop-instant l = string_bytes l.text ≡ string_bytes l.initial.text ++ flat_map (moment (signals_view l.signals)) (range_with_len 0 l.instant)
