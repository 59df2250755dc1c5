-- Loops over a table's cells, one step.
use Rattle.std.proofs.Common.{◌≡◌, ℕ, ◌+◌, Bool, true, false, cond, List, [], ◌∷◌, ◌++◌, map, filter, flat_map, replicate, sym, ap, ◌∙◌, arith, append_assoc}
use Rattle.std.specs.List.{range_with_len}
use Rattle.std.proofs.Math.ListN.{replicate-append-replicate}
use Rattle.std.proofs.lemmas.List.{append-nil}
use Rattle.std.proofs.lemmas.List.Elements.{filter-append}
use Rattle.std.proofs.lemmas.List.FromFn.{map-range_with_len_more}
use Rattle.luworld.proofs.Rounds.{range_more, one_more}

-- one blank more
pub blanks_more : (n : ℕ) (start old new : List ℕ) → old ≡ start ++ replicate n 32 → new ≡ old ++ 32 ∷ [] → new ≡ start ++ replicate (n + 1) 32
blanks_more n start old new before is =
    is ∙ ap (λ xs. xs ++ 32 ∷ []) before ∙ append_assoc start (replicate n 32) (32 ∷ []) ∙ ap (λ xs. start ++ xs) (replicate-append-replicate n 1 32)

-- the rows of the next number more
pub rows_more : {X : Type 0} (f : ℕ → List X) (n : ℕ) (start old new : List X) → old ≡ start ++ flat_map f (range_with_len 0 n) → new ≡ old ++ f n → new ≡ start ++ flat_map f (range_with_len 0 (n + 1))
rows_more f n start old new before is =
    let z : 0 + n ≡ n = omega arith in
    let next : flat_map f (range_with_len 0 (n + 1)) ≡ flat_map f (range_with_len 0 n) ++ f n = ap (flat_map f) (range_more 0 n) ∙ ap (λ k. flat_map f (range_with_len 0 n ++ k ∷ [])) z ∙ one_more f (range_with_len 0 n) n in
    is ∙ ap (λ xs. xs ++ f n) before ∙ append_assoc start (flat_map f (range_with_len 0 n)) (f n) ∙ ap (λ xs. start ++ xs) (sym next)

-- one item more, made of the next number
pub made_more : {X : Type 0} (f : ℕ → X) (n : ℕ) (start old new : List X) → old ≡ start ++ map f (range_with_len 0 n) → new ≡ old ++ f n ∷ [] → new ≡ start ++ map f (range_with_len 0 (n + 1))
made_more f n start old new before is =
    is ∙ ap (λ xs. xs ++ f n ∷ []) before ∙ append_assoc start (map f (range_with_len 0 n)) (f n ∷ []) ∙ ap (λ xs. start ++ xs) (sym (map-range_with_len_more f 0 n n (omega arith)))

-- the next number, where it passes, and where it doesn't
pub filter_next : (p : ℕ → Bool) (n : ℕ) (b : Bool) → p n ≡ b → filter p (range_with_len 0 (n + 1)) ≡ filter p (range_with_len 0 n) ++ cond b (n ∷ []) []
filter_next p n b is =
    let z : 0 + n ≡ n = omega arith in
    ap (filter p) (range_more 0 n) ∙ filter-append p (range_with_len 0 n) ((0 + n) ∷ []) ∙ ap (λ xs. filter p (range_with_len 0 n) ++ xs) (ap (λ k. filter p (k ∷ [])) z ∙ ap (λ c. cond c (n ∷ []) []) is)

pub passes_next : (p : ℕ → Bool) (n : ℕ) (old new : List ℕ) → old ≡ filter p (range_with_len 0 n) → p n ≡ true → new ≡ old ++ n ∷ [] → new ≡ filter p (range_with_len 0 (n + 1))
passes_next p n old new before is made = made ∙ ap (λ xs. xs ++ n ∷ []) before ∙ sym (filter_next p n true is)

pub fails_next : (p : ℕ → Bool) (n : ℕ) (old : List ℕ) → old ≡ filter p (range_with_len 0 n) → p n ≡ false → old ≡ filter p (range_with_len 0 (n + 1))
fails_next p n old before is = before ∙ sym (append-nil (filter p (range_with_len 0 n))) ∙ sym (filter_next p n false is)
