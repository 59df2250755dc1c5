use Rattle.std.proofs.Common.{◌≡◌, ◌++◌, flat_map, string_bytes}
use Rattle.std.specs.Prelude.{slice_get}
use Rattle.std.specs.List.{range_with_len}
use Rattle.luchart.specs.Signals.{signals_view}
use Rattle.luchart.specs.Dump.{made_of}
use Rattle.luweave_text.specs.Waves.{declared_at}
use Rattle.luweave_text.proofs.waves.put_site_flows.Given as goal

abbrev pub invariant-loop-k : goal.invariant-loop-k
invariant-loop-k l =
    string_bytes l.text ≡ string_bytes l.initial.text ++ flat_map (λ k. made_of (declared_at l.plan l.site k) (slice_get (signals_view l.signals) k)) (range_with_len 0 l.k)
