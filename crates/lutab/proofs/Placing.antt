-- What is made of each number below a bound, one more.
use Rattle.std.proofs.Common.{◌≡◌, ℕ, zero, suc, ◌+◌, List, [], ◌∷◌, ◌++◌, map, flat_map, replicate, sym, ap, ◌∙◌, arith, append_assoc}
use Rattle.std.specs.List.{range_with_len}
use Rattle.std.proofs.Math.ListN.{replicate-append-replicate}
use Rattle.std.proofs.lemmas.List.{append-nil}
use Rattle.std.proofs.lemmas.List.Concat.{flat_map-append}
use Rattle.std.proofs.lemmas.List.FromFn.{map-range_with_len_more}

range_more : (a n : ℕ) → range_with_len a (n + 1) ≡ range_with_len a n ++ (a + n) ∷ []
range_more a zero = let e : a ≡ a + 0 = omega arith in ap (λ (x : ℕ). x ∷ []) e
range_more a (suc n) =
    let e : a + 1 + n ≡ a + suc n = omega arith in
    let c : suc n + 1 ≡ suc (n + 1) = omega arith in
    ap (range_with_len a) c ∙ ap (λ (xs : List ℕ). a ∷ xs) (range_more (a + 1) n ∙ ap (λ (x : ℕ). range_with_len (a + 1) n ++ x ∷ []) e)

-- one piece more
pub piece_more : (f : ℕ → List ℕ) (n : ℕ) (start old new : List ℕ) → old ≡ start ++ flat_map f (range_with_len 0 n) → new ≡ old ++ f n → new ≡ start ++ flat_map f (range_with_len 0 (n + 1))
piece_more f n start old new before is =
    let z : 0 + n ≡ n = omega arith in
    let rs = range_with_len 0 n in
    let next : flat_map f (range_with_len 0 (n + 1)) ≡ flat_map f rs ++ f n = ap (flat_map f) (range_more 0 n) ∙ ap (λ k. flat_map f (rs ++ k ∷ [])) z ∙ flat_map-append f rs (n ∷ []) ∙ ap (λ xs. flat_map f rs ++ xs) (append-nil (f n)) in
    is ∙ ap (λ xs. xs ++ f n) before ∙ append_assoc start (flat_map f rs) (f n) ∙ ap (λ xs. start ++ xs) (sym next)

-- one blank more
pub blank_more : (n : ℕ) (start old new : List ℕ) → old ≡ start ++ replicate n 32 → new ≡ old ++ 32 ∷ [] → new ≡ start ++ replicate (n + 1) 32
blank_more n start old new before is =
    is ∙ ap (λ xs. xs ++ 32 ∷ []) before ∙ append_assoc start (replicate n 32) (32 ∷ []) ∙ ap (λ xs. start ++ xs) (replicate-append-replicate n 1 32)

-- one item more
pub item_more : (f : ℕ → ℕ) (n : ℕ) (old new : List ℕ) (x : ℕ) → old ≡ map f (range_with_len 0 n) → new ≡ old ++ x ∷ [] → x ≡ f n → new ≡ map f (range_with_len 0 (n + 1))
item_more f n old new x before is made =
    is ∙ ap (λ y. old ++ y ∷ []) made ∙ ap (λ xs. xs ++ f n ∷ []) before ∙ sym (map-range_with_len_more f 0 n n (omega arith))
