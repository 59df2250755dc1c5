-- A row whose items are changed one after another, where they lie.
use Rattle.std.proofs.Common.{◌≡◌, ℕ, zero, suc, ◌+◌, ◌<◌, ◌≤◌, List, [], ◌∷◌, map, length, get_or, set, refl, ap, sym, ◌∙◌, arith, add-one, take, drop, ◌++◌, append-nil, take_all}
use Rattle.std.proofs.lemmas.List.{drop_all}

-- those before a place are changed
abbrev pub changed : {Y : Type 0} → (Y → Y) → ℕ → List Y → List Y
changed f zero ys = ys
changed f (suc i) [] = []
changed f (suc i) (y ∷ ys) = f y ∷ changed f i ys

one_more : {Y : Type 0} (f : Y → Y) (i : ℕ) (ys : List Y) (d : Y) → i < length ys → set (changed f i ys) i (f (get_or (changed f i ys) i d)) ≡ changed f (suc i) ys
one_more f zero [] d here = absurd (omega (arith, here))
one_more f (suc i) [] d here = absurd (omega (arith, here))
one_more f zero (y ∷ ys) d here = refl
one_more f (suc i) (y ∷ ys) d here = ap (λ (zs : List _). f y ∷ zs) (one_more f i ys d (omega (arith, here)))

pub changed-all : {Y : Type 0} (f : Y → Y) (i : ℕ) (ys : List Y) → length ys ≤ i → changed f i ys ≡ map f ys
changed-all f zero [] far = refl
changed-all f (suc i) [] far = refl
changed-all f zero (y ∷ ys) far = absurd (omega (arith, far))
changed-all f (suc i) (y ∷ ys) far = ap (λ (zs : List _). f y ∷ zs) (changed-all f i ys (omega (arith, far)))

map-at : {X Y : Type 0} (see : X → Y) (xs : List X) (i : ℕ) (x : X) → i < length xs → get_or (map see xs) i (see x) ≡ see (get_or xs i x)
map-at see [] i x here = absurd (omega (arith, here))
map-at see (y ∷ xs) zero x here = refl
map-at see (y ∷ xs) (suc i) x here = map-at see xs i x (omega (arith, here))

map-put : {X Y : Type 0} (see : X → Y) (xs : List X) (i : ℕ) (x : X) → map see (set xs i x) ≡ set (map see xs) i (see x)
map-put see [] i x = refl
map-put see (y ∷ xs) zero x = refl
map-put see (y ∷ xs) (suc i) x = ap (λ (zs : List _). see y ∷ zs) (map-put see xs i x)

pub length-map : {A B : Type 0} (f : A → B) (xs : List A) → length (map f xs) ≡ length xs
length-map f [] = refl
length-map f (x ∷ xs) = ap suc (length-map f xs)

-- the item at a place is changed
pub changed-next : {X Y : Type 0} (see : X → Y) (f : Y → Y) (old new : List X) (i : ℕ) (x y : X) → map see new ≡ changed f i (map see old) → i < length old
    → i < length new → see y ≡ f (see (get_or new i x)) → map see (set new i y) ≡ changed f (i + 1) (map see old)
changed-next see f old new i x y so here there put =
    let long = length-map see old in
    map-put see new i y
    ∙ ap (set (map see new) i) (put ∙ ap f (sym (map-at see new i x there)))
    ∙ ap (λ (zs : List _). set zs i (f (get_or zs i (see x)))) so
    ∙ one_more f i (map see old) (see x) (omega (arith, here, long))
    ∙ ap (λ (k : ℕ). changed f k (map see old)) (sym (add-one i))

put_back : {Y : Type 0} (ys : List Y) (i : ℕ) (d : Y) → i < length ys → set ys i (get_or ys i d) ≡ ys
put_back [] i d here = absurd (omega (arith, here))
put_back (y ∷ ys) zero d here = refl
put_back (y ∷ ys) (suc i) d here = ap (λ (zs : List _). y ∷ zs) (put_back ys i d (omega (arith, here)))

-- what stays as it is
pub kept-next : {X Y : Type 0} (see : X → Y) (old new : List X) (i : ℕ) (x y : X) → map see new ≡ map see old → i < length new → see y ≡ see (get_or new i x)
    → map see (set new i y) ≡ map see old
kept-next see old new i x y so there put =
    let long = length-map see new in
    map-put see new i y
    ∙ ap (set (map see new) i) (put ∙ sym (map-at see new i x there))
    ∙ put_back (map see new) i (see x) (omega (arith, there, long))
    ∙ so

pub changed-one : {X : Type 0} (f : X → X) (old new : List X) (i : ℕ) (x y : X) → new ≡ changed f i old → i < length old
    → y ≡ f (get_or new i x) → set new i y ≡ changed f (i + 1) old
changed-one f old new i x y so here put =
    ap (set new i) put
    ∙ ap (λ (zs : List _). set zs i (f (get_or zs i x))) so
    ∙ one_more f i old x here
    ∙ ap (λ (k : ℕ). changed f k old) (sym (add-one i))

-- all of them
pub changed-whole : {X Y : Type 0} (see : X → Y) (f : Y → Y) (old new : List X) (i : ℕ) → map see new ≡ changed f i (map see old) → length old ≤ i → map see new ≡ map f (map see old)
changed-whole see f old new i so far = let long = length-map see old in so ∙ changed-all f i (map see old) (omega (arith, far, long))

-- what a loop that writes into a vector leaves in it
pub written-back : {X : Type 0} (long : ℕ) (new old : List X) → length new ≡ long → length old ≡ long → take long (new ++ drop (length new) old) ≡ new
written-back long new old is was =
    ap (take long) (ap (λ (rest : List _). new ++ rest) (drop_all (length new) old (omega (arith, is, was))) ∙ append-nil new) ∙ take_all long new (omega (arith, is))
