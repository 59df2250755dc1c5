-- A loop over a list has gone on by one item.
use Rattle.std.proofs.Common.{◌≡◌, ◌<◌, ◌+◌, ℕ, List, [], ◌∷◌, ◌++◌, length, take, get_or, map, sym, ap, ◌∙◌, append_assoc}
use Rattle.std.specs.List.{flat_map}
use Rattle.std.proofs.lemmas.List.{take_more, map-append, append-nil}
use Rattle.std.proofs.lemmas.Grind.{flat_map-append}

-- where x is item i, one more item is taken
pub taken_more : {A : Type 0} (xs : List A) (i : ℕ) (x : A) → i < length xs → x ≡ get_or xs i x → take (i + 1) xs ≡ take i xs ++ x ∷ []
taken_more xs i x less is = take_more xs i x less ∙ ap (λ y. take i xs ++ y ∷ []) (sym is)

pub mapped_more : {A B : Type 0} (f : A → B) (xs : List A) (i : ℕ) (x : A) → i < length xs → x ≡ get_or xs i x → map f (take (i + 1) xs) ≡ map f (take i xs) ++ f x ∷ []
mapped_more f xs i x less is = ap (map f) (taken_more xs i x less is) ∙ map-append f (take i xs) (x ∷ [])

pub mapped_twice_more : {A B C : Type 0} (g : B → C) (f : A → B) (xs : List A) (i : ℕ) (x : A) → i < length xs → x ≡ get_or xs i x
    → map g (map f (take (i + 1) xs)) ≡ map g (map f (take i xs)) ++ g (f x) ∷ []
mapped_twice_more g f xs i x less is = ap (map g) (mapped_more f xs i x less is) ∙ map-append g (map f (take i xs)) (f x ∷ [])

pub joined_more : {A B C : Type 0} (g : B → List C) (f : A → B) (xs : List A) (i : ℕ) (x : A) → i < length xs → x ≡ get_or xs i x
    → flat_map g (map f (take (i + 1) xs)) ≡ flat_map g (map f (take i xs)) ++ g (f x)
joined_more g f xs i x less is =
    ap (flat_map g) (mapped_more f xs i x less is) ∙ flat_map-append g (map f (take i xs)) (f x ∷ []) ∙ ap (λ ys. flat_map g (map f (take i xs)) ++ ys) (append-nil (g (f x)))

-- one more name was put behind others
pub names_more : {R : Type 0} (now : R → List ℕ) (old found new : List R) (left : List (List ℕ)) (i : ℕ) (r : R) (x : List ℕ) → i < length left → x ≡ get_or left i x → now r ≡ x
    → new ≡ found ++ r ∷ [] → map now found ≡ map now old ++ take i left → map now new ≡ map now old ++ take (i + 1) left
names_more now old found new left i r x less is same more so_far =
    ap (map now) more ∙ map-append now found (r ∷ []) ∙ ap (λ xs. xs ++ now r ∷ []) so_far ∙ append_assoc (map now old) (take i left) (now r ∷ [])
    ∙ ap (λ y. map now old ++ (take i left ++ y ∷ [])) same ∙ ap (λ ys. map now old ++ ys) (sym (taken_more left i x less is))
