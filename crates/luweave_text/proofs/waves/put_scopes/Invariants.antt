use Rattle.std.proofs.Common.{◌≡◌, ◌++◌, flat_map, string_bytes}
use Rattle.std.specs.List.{range_with_len}
use Rattle.luchart.specs.Signals.{signals_view}
use Rattle.luweave_text.specs.Waves.{scope}
use Rattle.luweave_text.proofs.waves.put_scopes.Given as goal

abbrev pub invariant-loop-site : goal.invariant-loop-site
invariant-loop-site l = string_bytes l.text ≡ string_bytes l.initial.text ++ flat_map (scope l.plan (signals_view l.signals)) (range_with_len 0 l.site)
