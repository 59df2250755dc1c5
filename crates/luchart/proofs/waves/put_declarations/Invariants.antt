use Rattle.std.proofs.Common.{◌≡◌, ◌++◌, drop, string_bytes}
use denote.Text.{Utf8}
use denote.Shadow.{shadow}
use Rattle.luchart.specs.Signals.{signals_view}
use Rattle.luchart.specs.Scopes.{scopes}
use Rattle.luchart.specs.Dump.{declarations, scoped}
use Rattle.luchart.proofs.waves.put_declarations.Given as goal

abbrev pub invariant-loop-k : goal.invariant-loop-k
invariant-loop-k l = shadow (Utf8 l.before)
    × (string_bytes l.text ++ scoped (scopes l.before) l.k (drop l.k (signals_view l.signals)) ≡ string_bytes l.initial.text ++ declarations (signals_view l.signals))
