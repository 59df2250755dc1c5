use Rattle.std.proofs.Common.{◌≡◌, ◌++◌, length, flat_map, string_bytes}
use denote.Text.{Utf8}
use denote.Shadow.{shadow}
use Rattle.luchart.specs.Scopes.{ended, scopes}
use Rattle.luchart.proofs.scopes.put_ends.Given as goal

abbrev pub invariant-loop-behind : goal.invariant-loop-behind
invariant-loop-behind l = shadow (Utf8 l.rest)
    × (string_bytes l.text ++ flat_map ended (scopes l.rest) ≡ string_bytes l.initial.text ++ flat_map ended (scopes l.initial.rest))

abbrev pub decreases-loop-behind : goal.decreases-loop-behind
decreases-loop-behind l = length l.rest
