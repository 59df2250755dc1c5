-- What holds of each element.
use Rattle.std.proofs.Common.{◌≡◌, ℕ, zero, suc, ◌<◌, List, [], ◌∷◌, ◌++◌, length, set, Some, refl, sym, subst, ap, ◌∙◌, arith}
use Rattle.std.specs.Prelude.{slice_get, slice_index_or, All}
use Rattle.std.proofs.lemmas.List.{length-set}
use Rattle.std.proofs.lemmas.Option.{get_or_from_slice_get, same_Some, slice_get-get_or}
use Rattle.luflow.proofs.Solutions.{some_at}

pub all_from : {X : Type 0} (P : X → Type 0) (xs : List X) → ((j : ℕ) (x : X) → slice_get xs j ≡ Some x → P x) → All P xs
all_from P xs f = λ k d l.
    let x = some_at xs k l in
    subst P (sym (get_or_from_slice_get xs k x.0 d x.1)) (f k x.0 x.1)

-- an element that was read by its number
pub got : {X : Type 0} (xs : List X) (k : ℕ) (x : X) → k < length xs → x ≡ slice_index_or xs k x → slice_get xs k ≡ Some x
got xs k x l e = slice_get-get_or xs k x l ∙ ap Some (sym e)

-- one that is put where it was
pub set_back : {X : Type 0} (xs : List X) (k : ℕ) (x : X) → slice_get xs k ≡ Some x → set xs k x ≡ xs
set_back [] k x e = cc
set_back (y ∷ xs) zero x e = ap (λ z. z ∷ xs) (sym (same_Some y x e))
set_back (y ∷ xs) (suc k) x e = ap (λ zs. y ∷ zs) (set_back xs k x e)

-- of two that are put in one place the second stays
pub set_twice : {X : Type 0} (xs : List X) (k : ℕ) (x y : X) → set (set xs k x) k y ≡ set xs k y
set_twice [] k x y = refl
set_twice (z ∷ xs) zero x y = refl
set_twice (z ∷ xs) (suc k) x y = ap (λ zs. z ∷ zs) (set_twice xs k x y)

pub len_set : {X : Type 0} (xs ys : List X) (k : ℕ) (x : X) → ys ≡ set xs k x → k < length xs → k < length ys
len_set xs ys k x e l = let a = ap length e in let b = length-set xs k x in omega (arith, a, b, l)

-- one element more
pub push_each : {X : Type 0} (P : ℕ → X → Type 0) (xs : List X) (y : X) → ((j : ℕ) (x : X) → slice_get xs j ≡ Some x → P j x) → P (length xs) y → (j : ℕ) (x : X) → slice_get (xs ++ y ∷ []) j ≡ Some x → P j x
push_each P [] y f one zero x e = subst (P 0) (same_Some y x e) one
push_each P [] y f one (suc j) x e = absurd cc
push_each P (z ∷ zs) y f one zero x e = f zero x e
push_each P (z ∷ zs) y f one (suc j) x e = push_each (λ n. P (suc n)) zs y (λ j x e. f (suc j) x e) one j x e
