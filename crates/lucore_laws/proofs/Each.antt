-- Facts of the members of a list, numbered from a start.
use Rattle.std.proofs.Common.{◌≡◌, ℕ, zero, suc, ◌+◌, ◌<◌, List, [], ◌∷◌, ◌++◌, length, map, Some, refl, subst, arith}
use Rattle.std.specs.Prelude.{slice_get, slice_index}

-- P holds of each member and its number, the first one's being s
abbrev pub Each : {A : Type 0} → (ℕ → A → Type 0) → ℕ → List A → Type 0
Each P s [] = Unit {0}
Each P s (x ∷ xs) = P s x × Each P (suc s) xs

pub each_left : {A : Type 0} (P : ℕ → A → Type 0) (s : ℕ) (xs ys : List A) → Each P s (xs ++ ys) → Each P s xs
each_left P s [] ys h = tt
each_left P s (x ∷ xs) ys h = (h.0, each_left P (suc s) xs ys h.1)

pub each_right : {A : Type 0} (P : ℕ → A → Type 0) (s : ℕ) (xs ys : List A) → Each P s (xs ++ ys) → Each P (s + length xs) ys
each_right P s [] ys h = let e : s ≡ s + 0 = omega arith in subst (λ n. Each P n ys) e h
each_right P s (x ∷ xs) ys h =
    let e : suc s + length xs ≡ s + length (x ∷ xs) = omega arith in
    subst (λ n. Each P n ys) e (each_right P (suc s) xs ys h.1)

pub each_join : {A : Type 0} (P : ℕ → A → Type 0) (s : ℕ) (xs ys : List A) → Each P s xs → Each P (s + length xs) ys → Each P s (xs ++ ys)
each_join P s [] ys h g = let e : s + 0 ≡ s = omega arith in subst (λ n. Each P n ys) e g
each_join P s (x ∷ xs) ys h g =
    let e : s + length (x ∷ xs) ≡ suc s + length xs = omega arith in
    (h.0, each_join P (suc s) xs ys h.1 (subst (λ n. Each P n ys) e g))

pub each_at : {A : Type 0} (P : ℕ → A → Type 0) (s : ℕ) (xs : List A) (j : ℕ) (x : A) → Each P s xs → slice_get xs j ≡ Some x → P (s + j) x
each_at P s [] j x h e = cc
each_at P s (y ∷ ys) zero x h e =
    let yx : y ≡ x = cc in
    let z : s ≡ s + 0 = omega arith in
    subst (λ n. P n x) z (subst (λ v. P s v) yx h.0)
each_at P s (y ∷ ys) (suc j) x h e =
    let z : suc s + j ≡ s + suc j = omega arith in
    subst (λ n. P n x) z (each_at P (suc s) ys j x h.1 e)

pub each_all : {A : Type 0} (P : ℕ → A → Type 0) (s : ℕ) (xs : List A) → ((j : ℕ) (x : A) → slice_get xs j ≡ Some x → P (s + j) x) → Each P s xs
each_all P s [] h = tt
each_all P s (x ∷ xs) h =
    let z : s + 0 ≡ s = omega arith in
    (subst (λ n. P n x) z (h 0 x refl), each_all P (suc s) xs (λ j y e. let z : s + suc j ≡ suc s + j = omega arith in subst (λ n. P n y) z (h (suc j) y e)))

pub each_imp : {A : Type 0} (P Q : ℕ → A → Type 0) (s : ℕ) (xs : List A) → ((j : ℕ) (x : A) → P j x → Q j x) → Each P s xs → Each Q s xs
each_imp P Q s [] f h = tt
each_imp P Q s (x ∷ xs) f h = (f s x h.0, each_imp P Q (suc s) xs f h.1)

pub each_unmap : {A B : Type 0} (P : ℕ → B → Type 0) (f : A → B) (s : ℕ) (xs : List A) → Each P s (map f xs) → Each (λ j x. P j (f x)) s xs
each_unmap P f s [] h = tt
each_unmap P f s (x ∷ xs) h = (h.0, each_unmap P f (suc s) xs h.1)

pub each_map : {A B : Type 0} (P : ℕ → B → Type 0) (f : A → B) (s : ℕ) (xs : List A) → Each (λ j x. P j (f x)) s xs → Each P s (map f xs)
each_map P f s [] h = tt
each_map P f s (x ∷ xs) h = (h.0, each_map P f (suc s) xs h.1)

pub each_shift : {A : Type 0} (P : ℕ → A → Type 0) (b s : ℕ) (xs : List A) → Each P (b + s) xs → Each (λ j x. P (b + j) x) s xs
each_shift P b s [] h = tt
each_shift P b s (x ∷ xs) h =
    let z : suc (b + s) ≡ b + suc s = omega arith in
    (h.0, each_shift P b (suc s) xs (subst (λ n. Each P n xs) z h.1))

pub each_unshift : {A : Type 0} (P : ℕ → A → Type 0) (b s : ℕ) (xs : List A) → Each (λ j x. P (b + j) x) s xs → Each P (b + s) xs
each_unshift P b s [] h = tt
each_unshift P b s (x ∷ xs) h =
    let z : b + suc s ≡ suc (b + s) = omega arith in
    (h.0, subst (λ n. Each P n xs) z (each_unshift P b (suc s) xs h.1))

-- what a mapped list of places has
pub mapped : {A : Type 0} (f : ℕ → A) (xs : List ℕ) (r : ℕ) (y : A) → slice_get (map f xs) r ≡ Some y → f (slice_index xs r) ≡ y
mapped f [] r y e = cc
mapped f (x ∷ xs) zero y e = cc
mapped f (x ∷ xs) (suc r) y e = mapped f xs r y e

pub mapped_at : {A : Type 0} (f : ℕ → A) (xs : List ℕ) (r : ℕ) → r < length xs → slice_get (map f xs) r ≡ Some (f (slice_index xs r))
mapped_at f [] r lt = absurd (omega arith)
mapped_at f (x ∷ xs) zero lt = refl
mapped_at f (x ∷ xs) (suc r) lt = mapped_at f xs r (omega arith)
