-- What stands at the first place of a name.
use Rattle.std.proofs.Common.{◌≡◌, ◌∙◌, ℕ, suc, ◌+◌, Bool, true, false, List, [], ◌∷◌, map, Option, Some, None, cond, refl, sym, ap, add-one}
use Rattle.std.specs.Prelude.{slice_get, find}
use Rattle.std.specs.Option.{option_map}
use Rattle.std.specs.Str.{bytes_eq}
use Rattle.lubase.specs.Places.{place_from, first_place}

-- counting from one more
shift_step : (a : ℕ) (b : Bool) (o p : Option ℕ) → o ≡ option_map suc p → cond b (Some (suc a)) o ≡ option_map suc (cond b (Some a) p)
shift_step a true o p e = refl
shift_step a false o p e = e

shifted : (a : ℕ) (ys : List (List ℕ)) (x : List ℕ) → place_from (suc a) ys x ≡ option_map suc (place_from a ys x)
shifted a [] x = refl
shifted a (y ∷ ys) x =
    shift_step a (bytes_eq y x) (place_from (suc a + 1) ys x) (place_from (a + 1) ys x)
    (ap (λ k. place_from (k + 1) ys x) (sym (add-one a)) ∙ ap (λ k. place_from k ys x) (add-one (a + 1)) ∙ shifted (a + 1) ys x)

pub shifted_first : (ys : List (List ℕ)) (x : List ℕ) → place_from 1 ys x ≡ option_map suc (first_place ys x)
shifted_first ys x = shifted 0 ys x

abbrev pub at : {A : Type 0} → List A → Option ℕ → Option A
at xs None = None
at xs (Some k) = slice_get xs k

pub at_suc : {A : Type 0} (x : A) (xs : List A) (o : Option ℕ) → at (x ∷ xs) (option_map suc o) ≡ at xs o
at_suc x xs None = refl
at_suc x xs (Some k) = refl

-- at the first place of a name stands the first of that name
such_step : {A : Type 0} (a : A) (xs : List A) (b : Bool) (o : Option A) (p q : Option ℕ) → q ≡ option_map suc p → at xs p ≡ o → at (a ∷ xs) (cond b (Some 0) q) ≡ cond b (Some a) o
such_step a xs true o p q e h = refl
such_step a xs false o p q e h = ap (at (a ∷ xs)) e ∙ at_suc a xs p ∙ h

pub first_such : {A : Type 0} (name : A → List ℕ) (xs : List A) (x : List ℕ) → at xs (first_place (map name xs) x) ≡ find (λ a. bytes_eq (name a) x) xs
first_such name [] x = refl
first_such name (a ∷ xs) x =
    such_step a xs (bytes_eq (name a) x) (find (λ a. bytes_eq (name a) x) xs) (first_place (map name xs) x) (place_from 1 (map name xs) x)
    (shifted_first (map name xs) x) (first_such name xs x)
