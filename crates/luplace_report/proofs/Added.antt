-- A text with more at its end, piece by piece.
use Rattle.std.proofs.Common.{◌≡◌, ℕ, List, ◌++◌, Result, Ok, Err, String, Global, ap, ◌∙◌, append_assoc, string_bytes}
use Rattle.luplace_report.specs.Names.{Adds}

pub adds_after : {X E : Type 0} (r : Result X E) (old mid new : String Global) (a b : List ℕ) → string_bytes mid ≡ string_bytes old ++ a → Adds r mid new b → Adds r old new (a ++ b)
adds_after (Ok x) old mid new a b first then = then ∙ ap (λ xs. xs ++ b) first ∙ append_assoc (string_bytes old) a b
adds_after (Err e) old mid new a b first then = tt
