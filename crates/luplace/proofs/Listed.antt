-- What stands in a list that is mapped or filtered, and in order.
use Rattle.std.proofs.Common.{◌≡◌, zero, suc, ◌⊎◌, inl, inr, Bool, true, false, cond, List, [], ◌∷◌, map, filter, refl, sym, ap, ◌∙◌, subst, arith}
use Rattle.std.specs.Prelude.{Contains}
use Rattle.std.proofs.lemmas.Bool.{true≢false}

pub contains_here : {X : Type 0} (x : X) (xs : List X) → Contains (x ∷ xs) x
contains_here x xs = (0, omega arith, refl)

pub contains_later : {X : Type 0} (x y : X) (xs : List X) → Contains xs y → Contains (x ∷ xs) y
contains_later x y xs c = (suc c.0, omega (arith, c.1), c.2)

pub contains_cons : {X : Type 0} (x y : X) (xs : List X) → Contains (x ∷ xs) y → (x ≡ y) ⊎ Contains xs y
contains_cons x y xs (zero, lt, e) = inl e
contains_cons x y xs (suc k, lt, e) = inr (k, omega (arith, lt), e)

pub contains_none : {X : Type 0} (y : X) → Contains [] y → ⊥
contains_none y c = omega (arith, c.1)

pub contains_map : {X Y : Type 0} (f : X → Y) (x : X) (xs : List X) → Contains xs x → Contains (map f xs) (f x)
contains_map f x [] c = absurd (contains_none x c)
contains_map f x (y ∷ xs) c = elim (contains_cons y x xs c) [
  | inl e ↦ subst (λ z. Contains (f y ∷ map f xs) (f z)) e (contains_here (f y) (map f xs))
  | inr d ↦ contains_later (f y) (f x) (map f xs) (contains_map f x xs d)
]

-- what an element of a mapped list comes from
pub record IsMapped {X Y : Type 0} (f : X → Y) (xs : List X) (y : Y) : Type 0 where
  pub from : X
  pub there : Contains xs from
  pub is : y ≡ f from

pub map_contains : {X Y : Type 0} (f : X → Y) (y : Y) (xs : List X) → Contains (map f xs) y → IsMapped f xs y
map_contains f y [] c = absurd (contains_none y c)
map_contains f y (x ∷ xs) c = elim (contains_cons (f x) y (map f xs) c) [
  | inl e ↦ record { from = x; there = contains_here x xs; is = sym e }
  | inr d ↦ let w = map_contains f y xs d in record { from = w.from; there = contains_later x w.from xs w.there; is = w.is }
]

pub contains_filter : {X : Type 0} (p : X → Bool) (y : X) (xs : List X) → Contains xs y → p y ≡ true → Contains (filter p xs) y
contains_filter p y [] c py = absurd (contains_none y c)
contains_filter p y (x ∷ xs) c py = go (p x) refl (contains_cons x y xs c) (λ d. contains_filter p y xs d py)
  where
    go : (b : Bool) → p x ≡ b → (x ≡ y) ⊎ Contains xs y → (Contains xs y → Contains (filter p xs) y) → Contains (cond b (x ∷ filter p xs) (filter p xs)) y
    go true e (inl s) rest = (0, omega arith, s)
    go true e (inr d) rest = contains_later x y (filter p xs) (rest d)
    go false e (inl s) rest = absurd (true≢false (sym py ∙ sym (ap p s) ∙ e))
    go false e (inr d) rest = rest d

pub record IsKept {X : Type 0} (p : X → Bool) (xs : List X) (y : X) : Type 0 where
  pub there : Contains xs y
  pub passes : p y ≡ true

pub filter_contains : {X : Type 0} (p : X → Bool) (y : X) (xs : List X) → Contains (filter p xs) y → IsKept p xs y
filter_contains p y [] c = absurd (contains_none y c)
filter_contains p y (x ∷ xs) c = go (p x) refl c (filter_contains p y xs)
  where
    go : (b : Bool) → p x ≡ b → Contains (cond b (x ∷ filter p xs) (filter p xs)) y → (Contains (filter p xs) y → IsKept p xs y) → IsKept p (x ∷ xs) y
    go true e d rest = elim (contains_cons x y (filter p xs) d) [
      | inl s ↦ record { there = (0, omega arith, s); passes = sym (ap p s) ∙ e }
      | inr f ↦ let w = rest f in record { there = contains_later x y xs w.there; passes = w.passes }
    ]
    go false e d rest = let w = rest d in record { there = contains_later x y xs w.there; passes = w.passes }
