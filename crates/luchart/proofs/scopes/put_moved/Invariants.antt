use Rattle.std.proofs.Common.{◌≡◌, length}
use denote.Text.{Utf8}
use denote.Shadow.{shadow}
use Rattle.luchart.specs.Scopes.{moved, scopes}
use Rattle.luchart.proofs.scopes.put_moved.Given as goal

abbrev pub invariant-loop-left_rest : goal.invariant-loop-left_rest
invariant-loop-left_rest l = shadow (Utf8 l.left) × shadow (Utf8 l.next)
    × (moved (scopes l.left) (scopes l.next) ≡ moved (scopes l.initial.left) (scopes l.initial.next))

abbrev pub decreases-loop-left_rest : goal.decreases-loop-left_rest
decreases-loop-left_rest l = length l.left
