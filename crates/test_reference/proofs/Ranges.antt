-- Lists over a range, one number longer, and lists of streams that are the same.
use Rattle.std.proofs.Common.{◌≡◌, ℕ, zero, suc, ◌+◌, ◌<◌, List, [], ◌∷◌, ◌++◌, map, refl, ap, ap₂, ◌∙◌, sym, arith}
use Rattle.std.specs.List.{range_with_len}
use Rattle.std.proofs.lemmas.List.FromFn.{map-range_with_len_more}
use Rattle.std.proofs.lemmas.List.{map-append}

pub map_more : {X : Type 0} (f : ℕ → X) (n : ℕ) → map f (range_with_len 0 (n + 1)) ≡ map f (range_with_len 0 n) ++ f n ∷ []
map_more f n = map-range_with_len_more f 0 n n (omega arith)

-- one more item of a list that is seen through a function
pub map_pushed : {X Y : Type 0} (view : X → Y) (f : ℕ → Y) (xs ys : List X) (x : X) (n : ℕ) → ys ≡ xs ++ x ∷ [] → map view xs ≡ map f (range_with_len 0 n) → view x ≡ f n → map view ys ≡ map f (range_with_len 0 (n + 1))
map_pushed view f xs ys x n pushed before here =
    ap (map view) pushed ∙ map-append view xs (x ∷ []) ∙ ap₂ (λ zs z. zs ++ z ∷ []) before here ∙ sym (map_more f n)

map_from : {X : Type 0} (f g : ℕ → X) (a n : ℕ) → ((k : ℕ) → k < a + n → f k ≡ g k) → map f (range_with_len a n) ≡ map g (range_with_len a n)
map_from f g a zero h = refl
map_from f g a (suc n) h =
    ap₂ (λ x xs. x ∷ xs) (h a (omega arith)) (map_from f g (a + 1) n (λ k l. h k (omega arith)))

-- two functions that are the same below n
pub map_same : {X : Type 0} (f g : ℕ → X) (n : ℕ) → ((k : ℕ) → k < n → f k ≡ g k) → map f (range_with_len 0 n) ≡ map g (range_with_len 0 n)
map_same f g n h = map_from f g 0 n (λ k l. h k (omega arith))
