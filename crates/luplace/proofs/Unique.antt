-- A plan has one way at most.
use Rattle.std.proofs.Common.{◌≡◌, ℕ, suc, ◌<◌, inl, inr, List, [], ◌∷◌, length, refl, sym, ap, ap₂, ◌∙◌, arith}
use Rattle.std.specs.Prelude.{Contains, slice_index}
use Rattle.std.specs.List.{AllPairs}
use Rattle.std.proofs.lemmas.Bool.{true≢false}
use Rattle.std.proofs.lemmas.List.Elements.{Contains-get_or}
use Rattle.std.proofs.lemmas.List.Kept.{AllPairs-from_increasing}
use Rattle.luworld.specs.Needs.{PlanView}
use Rattle.luplace.specs.declared.way.Way.TheVariants.{Rows, Parted, Nil}
use Rattle.luplace.specs.Ways.{IsPartedVariable, IsSentNil, NoneParted, GoesByRows, AreAll}
use Rattle.luplace.specs.Laws.{OneWay}
use Rattle.luplace.proofs.Listed.{contains_here, contains_later, contains_cons, contains_none}

-- each number is below those behind it
abbrev Rise : List ℕ → Type 0
Rise xs = AllPairs (λ x y. x < y) xs

rise_tail : (x : ℕ) (xs : List ℕ) → Rise (x ∷ xs) → Rise xs
rise_tail x xs h i j d lt l = h (suc i) (suc j) d (omega arith) (omega arith)

head_below : (x v : ℕ) (xs : List ℕ) → Rise (x ∷ xs) → Contains xs v → x < v
head_below x v xs h c = let lt = h 0 (suc c.0) v (omega arith) (omega (arith, c.1)) in omega (arith, lt, c.2)

-- what a list has, another has
abbrev Within : List ℕ → List ℕ → Type 0
Within xs ys = (v : ℕ) → Contains xs v → Contains ys v

same_head : (x y : ℕ) (xs ys : List ℕ) → Rise (x ∷ xs) → Rise (y ∷ ys) → Within (x ∷ xs) (y ∷ ys) → Within (y ∷ ys) (x ∷ xs) → x ≡ y
same_head x y xs ys rx ry there back = elim (contains_cons y x ys (there x (contains_here x xs))) [
  | inl e ↦ sym e
  | inr c ↦ elim (contains_cons x y xs (back y (contains_here y ys))) [
    | inl e ↦ e
    | inr d ↦ let a = head_below y x ys ry c in let b = head_below x y xs rx d in absurd (omega (arith, a, b))
  ]
]

within_tail : (x y : ℕ) (xs ys : List ℕ) → Rise (x ∷ xs) → x ≡ y → Within (x ∷ xs) (y ∷ ys) → Within xs ys
within_tail x y xs ys rx e there v c = elim (contains_cons y v ys (there v (contains_later x v xs c))) [
  | inl s ↦ let lt = head_below x v xs rx c in absurd (omega (arith, lt, e, s))
  | inr d ↦ d
]

same_list : (xs ys : List ℕ) → Rise xs → Rise ys → Within xs ys → Within ys xs → xs ≡ ys
same_list [] [] rx ry there back = refl
same_list [] (y ∷ ys) rx ry there back = absurd (contains_none y (back y (contains_here y ys)))
same_list (x ∷ xs) [] rx ry there back = absurd (contains_none x (there x (contains_here x xs)))
same_list (x ∷ xs) (y ∷ ys) rx ry there back =
    let e = same_head x y xs ys rx ry there back in
    ap₂ (λ z zs. z ∷ zs) e (same_list xs ys (rise_tail x xs rx) (rise_tail y ys ry) (within_tail x y xs ys rx e there) (within_tail y x ys xs ry (sym e) back))

same_all : (P : ℕ → Type 0) (xs ys : List ℕ) → AreAll P xs → AreAll P ys → xs ≡ ys
same_all P xs ys a b =
    same_list xs ys (AllPairs-from_increasing xs a.in_order) (AllPairs-from_increasing ys b.in_order)
    (λ v c. (b.exactly v).1 ((a.exactly v).0 c)) (λ v c. (a.exactly v).1 ((b.exactly v).0 c))

-- the first of some numbers of which P is true
first_of : (P : ℕ → Type 0) (vs : List ℕ) → 0 < length vs → AreAll P vs → P (slice_index vs 0)
first_of P vs some all = (all.exactly (slice_index vs 0)).0 (Contains-get_or vs 0 0 some)

not_parted : (plan : PlanView) (vs : List ℕ) → NoneParted plan → 0 < length vs → AreAll (IsPartedVariable plan) vs → ⊥
not_parted plan vs none some all =
    let w = first_of (IsPartedVariable plan) vs some all in
    w.1.2 (none (slice_index vs 0) w.1.0 w.1.1)

not_nil : (plan : PlanView) (vs : List ℕ) → GoesByRows plan → 0 < length vs → AreAll (IsSentNil plan) vs → ⊥
not_nil plan vs rows some all =
    let w = first_of (IsSentNil plan) vs some all in
    let i = rows.initialised (slice_index vs 0) w.0 in
    true≢false (sym (w.1 i.0 i.1) ∙ i.2)

pub one_way : OneWay
one_way plan Rows Rows a b = refl
one_way plan Rows (Parted vs) a b = absurd (not_parted plan vs a.together b.0 b.1)
one_way plan Rows (Nil vs) a b = absurd (not_nil plan vs a b.0 b.1)
one_way plan (Parted vs) Rows a b = absurd (not_parted plan vs b.together a.0 a.1)
one_way plan (Parted vs) (Parted ws) a b = ap Parted (same_all (IsPartedVariable plan) vs ws a.1 b.1)
one_way plan (Parted vs) (Nil ws) a b = absurd (not_parted plan vs b.2 a.0 a.1)
one_way plan (Nil vs) Rows a b = absurd (not_nil plan vs b a.0 a.1)
one_way plan (Nil vs) (Parted ws) a b = absurd (not_parted plan ws a.2 b.0 b.1)
one_way plan (Nil vs) (Nil ws) a b = ap Nil (same_all (IsSentNil plan) vs ws a.1 b.1)
