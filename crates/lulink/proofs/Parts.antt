-- Parts of a list, read at a place.
use Rattle.std.proofs.Common.{◌≡◌, ◌<◌, ◌≤◌, ◌+◌, ℕ, zero, suc, List, [], ◌∷◌, ◌++◌, length, take, drop, take-add, Some, None, refl, ap, ◌∙◌, arith}
use Rattle.std.specs.Prelude.{slice_get}
use Rattle.std.proofs.lemmas.Option.{slice_get_within, get_or_from_slice_get}
use Rattle.std.proofs.lemmas.List.{take_more}

module _ {A : Type 0} where
  pub take_next : (list : List A) (n : ℕ) (x : A) → slice_get list n ≡ Some x → take (n + 1) list ≡ take n list ++ x ∷ []
  take_next list n x at = take_more list n x (slice_get_within list n x at) ∙ ap (λ y. take n list ++ y ∷ []) (get_or_from_slice_get list n x x at)

  pub at_drop : (n : ℕ) (list : List A) (k : ℕ) → slice_get (drop n list) k ≡ slice_get list (n + k)
  at_drop zero list k = let same : k ≡ 0 + k = omega arith in ap (slice_get list) same
  at_drop (suc n) [] k = refl
  at_drop (suc n) (x ∷ xs) k = let next : suc (n + k) ≡ suc n + k = omega arith in at_drop n xs k ∙ ap (slice_get (x ∷ xs)) next

  pub at_take : (n : ℕ) (list : List A) (k : ℕ) (x : A) → slice_get (take n list) k ≡ Some x → slice_get list k ≡ Some x
  at_take zero list k x e = absurd cc
  at_take (suc n) [] k x e = e
  at_take (suc n) (y ∷ ys) zero x e = e
  at_take (suc n) (y ∷ ys) (suc k) x e = at_take n ys k x e

  -- a place within a list has an element
  pub not_past : (list : List A) (k : ℕ) → k < length list → slice_get list k ≡ None → ⊥
  not_past [] k lt e = omega arith
  not_past (x ∷ xs) zero lt e = cc
  not_past (x ∷ xs) (suc k) lt e = not_past xs k (omega arith) e

  pub element : (list : List A) (k : ℕ) → k < length list → (x : A) × (slice_get list k ≡ Some x)
  element [] k lt = absurd (omega arith)
  element (x ∷ xs) zero lt = (x, refl)
  element (x ∷ xs) (suc k) lt = element xs k (omega arith)

  -- a list whose elements stand at the same places of another
  same_front : (n : ℕ) (xs ys : List A) → n ≤ length xs → ((k : ℕ) (x : A) → slice_get xs k ≡ Some x → slice_get ys k ≡ Some x) → take n ys ≡ take n xs
  same_front zero xs ys few at = refl
  same_front (suc n) [] ys few at = absurd (omega arith)
  same_front (suc n) (x ∷ xs) [] few at = let none = at 0 x refl in absurd cc
  same_front (suc n) (x ∷ xs) (y ∷ ys) few at =
      let first : Some y ≡ Some x = at 0 x refl in
      let here : y ≡ x = cc in
      (λ i. here i ∷ same_front n xs ys (omega arith) (λ k z there. at (suc k) z there) i)

  pub take_run : (c n : ℕ) (list xs : List A) → n ≤ length xs → ((k : ℕ) (x : A) → slice_get xs k ≡ Some x → slice_get list (c + k) ≡ Some x) → take (c + n) list ≡ take c list ++ take n xs
  take_run c n list xs few at = take-add c n list ∙ ap (λ l. take c list ++ l) (same_front n xs (drop c list) few (λ k x there. at_drop c list k ∙ at k x there))
