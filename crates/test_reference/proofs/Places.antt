-- One cell of a grid is changed.
use Rattle.std.proofs.Common.{◌≡◌, ◌≢◌, ℕ, zero, suc, ◌+◌, ◌*◌, ◌<◌, ◌⊎◌, inl, inr, cond, nat_lt, List, [], ◌∷◌, length, set, Some, refl, ap, ◌∙◌, arith}
use Rattle.std.specs.Prelude.{slice_get}
use Rattle.std.proofs.Math.Nat.{mul-le-mul_right}
use Rattle.std.proofs.lemmas.Bool.{cases_lt, lt-ltb}
use Rattle.luflow.specs.Streams as streams
use Rattle.test_reference.specs.declared.mark.Mark.{Mark}
use Rattle.test_reference.specs.AsMark.{as_mark, mark_there}

slice_get-set_same : {X : Type 0} (xs : List X) (k : ℕ) (x : X) → k < length xs → slice_get (set xs k x) k ≡ Some x
slice_get-set_same [] k x l = absurd (omega arith)
slice_get-set_same (y ∷ xs) zero x l = refl
slice_get-set_same (y ∷ xs) (suc k) x l = slice_get-set_same xs k x (omega arith)

slice_get-set_other : {X : Type 0} (xs : List X) (k j : ℕ) (x : X) → j ≢ k → slice_get (set xs k x) j ≡ slice_get xs j
slice_get-set_other [] k j x n = refl
slice_get-set_other (y ∷ xs) zero zero x n = absurd (n refl)
slice_get-set_other (y ∷ xs) zero (suc j) x n = refl
slice_get-set_other (y ∷ xs) (suc k) zero x n = refl
slice_get-set_other (y ∷ xs) (suc k) (suc j) x n = slice_get-set_other xs k j x (λ e. n (ap suc e))

-- cells of different rows, and of different flows in one row, differ
rows_apart : (u t w j i : ℕ) → j < w → u < t → u * w + j < t * w + i
rows_apart u t w j i lj l = let h = mul-le-mul_right w l in let s : suc u * w ≡ u * w + w = omega arith in omega (arith, h, s)

pub place_within : (t n w i : ℕ) → t < n → i < w → t * w + i < n * w
place_within t n w i l li = let h = mul-le-mul_right w l in let s : suc t * w ≡ t * w + w = omega arith in omega (arith, h, s)

pub places_apart : (w i j t u : ℕ) → i < w → j < w → (j ≢ i) ⊎ (u ≢ t) → u * w + j ≢ t * w + i
places_apart w i j t u li lj n e =
    elim (cases_lt u t) [
      | inl l ↦ let h = rows_apart u t w j i lj l in absurd (omega arith)
      | inr r ↦ elim (cases_lt t u) [
        | inl l ↦ let h = rows_apart t u w i j li l in absurd (omega arith)
        | inr r' ↦
            let same : u ≡ t = omega arith in
            let row : u * w ≡ t * w = ap (λ (k : ℕ). k * w) same in
            let one : j ≡ i = omega arith in
            elim n [ inl d ↦ d one | inr d ↦ d same ]
      ]
    ]

-- the cells that a grid of width w holds
abbrev held_in : List Mark → ℕ → ℕ → ℕ → streams.Mark
held_in cells w i t = cond (nat_lt i w) (mark_there (slice_get cells (t * w + i))) streams.Broken

pub held_here : (cells : List Mark) (w i t : ℕ) (m : Mark) → i < w → t * w + i < length cells → held_in (set cells (t * w + i) m) w i t ≡ as_mark m
held_here cells w i t m li l =
    ap (λ b. cond b (mark_there (slice_get (set cells (t * w + i) m) (t * w + i))) streams.Broken) (lt-ltb i w li)
    ∙ ap mark_there (slice_get-set_same cells (t * w + i) m l)

pub held_others : (cells : List Mark) (w i t : ℕ) (m : Mark) → i < w → (j u : ℕ) → j < w → (j ≢ i) ⊎ (u ≢ t) → held_in (set cells (t * w + i) m) w j u ≡ held_in cells w j u
held_others cells w i t m li j u lj n =
    ap (λ o. cond (nat_lt j w) (mark_there o) streams.Broken) (slice_get-set_other cells (t * w + i) (u * w + j) m (places_apart w i j t u li lj n))
