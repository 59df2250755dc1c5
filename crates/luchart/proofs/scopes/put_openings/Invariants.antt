use Rattle.std.proofs.Common.{◌≡◌, ◌++◌, length, flat_map, string_bytes}
use denote.Text.{Utf8}
use denote.Shadow.{shadow}
use Rattle.luchart.specs.Scopes.{opened, scopes}
use Rattle.luchart.proofs.scopes.put_openings.Given as goal

abbrev pub invariant-loop-scope : goal.invariant-loop-scope
invariant-loop-scope l = shadow (Utf8 l.rest)
    × (string_bytes l.text ++ flat_map opened (scopes l.rest) ≡ string_bytes l.initial.text ++ flat_map opened (scopes l.initial.rest))

abbrev pub decreases-loop-scope : goal.decreases-loop-scope
decreases-loop-scope l = length l.rest
