-- A text with more at its end, piece by piece and line by line.
use Rattle.std.proofs.Common.{◌≡◌, ℕ, ◌+◌, List, [], ◌∷◌, ◌++◌, flat_map, Result, Ok, Err, String, Global, sym, ap, ◌∙◌, append_assoc, string_bytes, arith}
use Rattle.std.specs.List.{range_with_len}
use Rattle.luworld.proofs.Rounds.{range_more, one_more}
use Rattle.lustats.specs.Text.{Adds}

pub adds_after : {X E : Type 0} (r : Result X E) (old mid new : String Global) (a b : List ℕ) → string_bytes mid ≡ string_bytes old ++ a → Adds r mid new b → Adds r old new (a ++ b)
adds_after (Ok x) old mid new a b first then = then ∙ ap (λ xs. xs ++ b) first ∙ append_assoc (string_bytes old) a b
adds_after (Err e) old mid new a b first then = tt

-- the line of the next number more
pub line_more : (f : ℕ → List ℕ) (n : ℕ) (start old new : List ℕ) → old ≡ start ++ flat_map f (range_with_len 0 n) → new ≡ old ++ f n → new ≡ start ++ flat_map f (range_with_len 0 (n + 1))
line_more f n start old new before is =
    let z : 0 + n ≡ n = omega arith in
    let next : flat_map f (range_with_len 0 (n + 1)) ≡ flat_map f (range_with_len 0 n) ++ f n = ap (flat_map f) (range_more 0 n) ∙ ap (λ k. flat_map f (range_with_len 0 n ++ k ∷ [])) z ∙ one_more f (range_with_len 0 n) n in
    is ∙ ap (λ xs. xs ++ f n) before ∙ append_assoc start (flat_map f (range_with_len 0 n)) (f n) ∙ ap (λ xs. start ++ xs) (sym next)
