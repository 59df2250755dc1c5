-- Places of a list with one more at its end.
use Rattle.std.proofs.Common.{◌≡◌, ◌⊎◌, inl, inr, ℕ, zero, suc, List, [], ◌∷◌, ◌++◌, length, refl, subst, Some, arith}
use Rattle.std.specs.List.{slice_get}
use Rattle.std.proofs.lemmas.Option.{none-some, same_Some, slice_get_within}
use Rattle.lubase.specs.Search.{Each, EachPair}

-- what stands at a place stands in front, or is the last
pub at_push : {X : Type 0} → (xs : List X) (y : X) (i : ℕ) (x : X) → slice_get (xs ++ y ∷ []) i ≡ Some x → (slice_get xs i ≡ Some x) ⊎ ((i ≡ length xs) × (y ≡ x))
at_push [] y zero x e = inr (refl, same_Some y x e)
at_push [] y (suc i) x e = absurd (none-some x e)
at_push (z ∷ xs) y zero x e = inl e
at_push (z ∷ xs) y (suc i) x e = elim (at_push xs y i x e) [ inl h ↦ inl h | inr h ↦ inr (omega (arith, h.0), h.1) ]

pub at_left : {X : Type 0} → (xs ys : List X) (i : ℕ) (x : X) → slice_get xs i ≡ Some x → slice_get (xs ++ ys) i ≡ Some x
at_left [] ys i x e = absurd (none-some x e)
at_left (z ∷ xs) ys zero x e = e
at_left (z ∷ xs) ys (suc i) x e = at_left xs ys i x e

pub at_last : {X : Type 0} → (xs : List X) (y : X) → slice_get (xs ++ y ∷ []) (length xs) ≡ Some y
at_last [] y = refl
at_last (z ∷ xs) y = at_last xs y

pub each_push : {X : Type 0} → (P : X → Type 0) (xs : List X) (y : X) → Each P xs → P y → Each P (xs ++ y ∷ [])
each_push P xs y all last i x e = elim (at_push xs y i x e) [ inl h ↦ all i x h | inr h ↦ subst P h.1 last ]

pub each_front : {X : Type 0} → (P : X → Type 0) (xs : List X) (y : X) → Each P (xs ++ y ∷ []) → Each P xs
each_front P xs y all i x e = all i x (at_left xs (y ∷ []) i x e)

pub each_last : {X : Type 0} → (P : X → Type 0) (xs : List X) (y : X) → Each P (xs ++ y ∷ []) → P y
each_last P xs y all = all (length xs) y (at_last xs y)

pub pairs_push : {X : Type 0} → (R : X → X → Type 0) (xs : List X) (y : X) → EachPair R xs → Each (λ x. R x y) xs → EachPair R (xs ++ y ∷ [])
pairs_push R xs y all last i j x z lt e f =
    elim (at_push xs y j z f) [
      | inl g ↦ elim (at_push xs y i x e) [ inl h ↦ all i j x z lt h g | inr h ↦ absurd (omega (arith, h.0, slice_get_within xs j z g)) ]
      | inr g ↦ elim (at_push xs y i x e) [ inl h ↦ subst (R x) g.1 (last i x h) | inr h ↦ absurd (omega (arith, h.0, g.0)) ]
    ]

pub pairs_front : {X : Type 0} → (R : X → X → Type 0) (xs : List X) (y : X) → EachPair R (xs ++ y ∷ []) → EachPair R xs
pairs_front R xs y all i j x z lt e f = all i j x z lt (at_left xs (y ∷ []) i x e) (at_left xs (y ∷ []) j z f)

pub pairs_last : {X : Type 0} → (R : X → X → Type 0) (xs : List X) (y : X) → EachPair R (xs ++ y ∷ []) → Each (λ x. R x y) xs
pairs_last R xs y all i x e = all i (length xs) x y (slice_get_within xs i x e) (at_left xs (y ∷ []) i x e) (at_last xs y)
