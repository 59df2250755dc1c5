-- Fields written one after the other.
use Rattle.std.proofs.Common.{◌≡◌, ℕ, ◌+◌, ◌<◌, List, [], ◌∷◌, ◌++◌, length, get_or, take, refl, sym, ap, ◌∙◌, append_assoc, arith, map}
use Rattle.std.specs.List.{join_with_byte}
use Rattle.std.proofs.lemmas.List.{map_more, length-map, length-take-le}
use Rattle.lutab.specs.Text.{comma_before}

pub join_push : (fs : List (List ℕ)) (x : List ℕ) → join_with_byte 44 (fs ++ x ∷ []) ≡ join_with_byte 44 fs ++ (comma_before (length fs) ++ x)
join_push [] x = refl
join_push (f ∷ []) x = refl
join_push (f ∷ g ∷ fs) x = ap (λ (t : List ℕ). f ++ 44 ∷ t) (join_push (g ∷ fs) x) ∙ sym (append_assoc f (44 ∷ join_with_byte 44 (g ∷ fs)) (44 ∷ x))

-- one more field of a line
pub field_more : {X : Type 0} (f : X → List ℕ) (xs : List X) (i : ℕ) (d : X) → i < length xs → join_with_byte 44 (map f (take (i + 1) xs)) ≡ join_with_byte 44 (map f (take i xs)) ++ (comma_before i ++ f (get_or xs i d))
field_more f xs i d lt =
    let len : length (map f (take i xs)) ≡ i = length-map (take i xs) f ∙ length-take-le i xs (omega arith) in
    ap (join_with_byte 44) (map_more f xs i d lt) ∙ join_push (map f (take i xs)) (f (get_or xs i d)) ∙ ap (λ n. join_with_byte 44 (map f (take i xs)) ++ (comma_before n ++ f (get_or xs i d))) len

-- the same behind what stands there
pub field_behind : {X : Type 0} (f : X → List ℕ) (xs : List X) (i : ℕ) (d : X) (start now comma new : List ℕ) → i < length xs → now ≡ start ++ join_with_byte 44 (map f (take i xs)) → comma ≡ now ++ comma_before i → new ≡ comma ++ f (get_or xs i d) → new ≡ start ++ join_with_byte 44 (map f (take (i + 1) xs))
field_behind f xs i d start now comma new lt so a b = rw (b, a, so, field_more f xs i d lt) (simp append_assoc)

map_map : {X Y Z : Type 0} (f : Y → Z) (v : X → Y) (xs : List X) → map f (map v xs) ≡ map (λ x. f (v x)) xs
map_map f v [] = refl
map_map {Z = Z} f v (x ∷ xs) = ap (λ (zs : List Z). f (v x) ∷ zs) (map_map f v xs)

-- the same of fields that are views
pub viewed_behind : {X Y : Type 0} (f : Y → List ℕ) (v : X → Y) (xs : List X) (i : ℕ) (d : X) (start now comma new : List ℕ) → i < length xs → now ≡ start ++ join_with_byte 44 (map f (map v (take i xs))) → comma ≡ now ++ comma_before i → new ≡ comma ++ f (v (get_or xs i d)) → new ≡ start ++ join_with_byte 44 (map f (map v (take (i + 1) xs)))
viewed_behind f v xs i d start now comma new lt so a b =
    let before = so ∙ ap (λ fs. start ++ join_with_byte 44 fs) (map_map f v (take i xs)) in
    field_behind (λ x. f (v x)) xs i d start now comma new lt before a b ∙ ap (λ fs. start ++ join_with_byte 44 fs) (sym (map_map f v (take (i + 1) xs)))
