-- Lists that gain warnings in order.
use Rattle.std.proofs.Common.{◌≡◌, ◌∙◌, ◌<◌, ◌≤◌, ◌+◌, ◌++◌, ◌∷◌, [], ◌⊎◌, inl, inr, ⊎_elim, ℕ, zero, suc, List, Some, Contains, length, refl, sym, ap, subst, arith, append_assoc}
use Rattle.std.specs.Prelude.{slice_get, All, AllPairs}
use Rattle.std.proofs.lemmas.Bool.{cases_lt}
use Rattle.std.proofs.lemmas.List.{append-nil}
use Rattle.std.proofs.lemmas.Option.{slice_get_within, same_Some}
use Rattle.std.proofs.lemmas.List.Elements.{All-nil, All-cons, All-head, All-tail, All-append, All-weaker, Contains-append_left, Contains-append_right, Contains-push}
use Rattle.std.proofs.lemmas.List.Kept.{AllPairs-cons}
use Rattle.lustat_warn.specs.declared.warning.Warning.{Warning}
use Rattle.lustat_warn.specs.Warnings.{Among, IsBefore}
use Rattle.lustat_warn.specs.Scans.{AreAll, Adds}

-- two lists, each in order, and all of the first before all of the second
pairs_append : {X : Type 0} (R : X → X → Type 0) (S T : X → Type 0) (xs ys : List X) → ((x y : X) → S x → T y → R x y) → All S xs → All T ys → AllPairs R xs → AllPairs R ys → AllPairs R (xs ++ ys)
pairs_append R S T [] ys cross s t up later = later
pairs_append R S T (x ∷ xs) ys cross s t up later =
    let before_rest : All (R x) xs = λ k d within. up zero (suc k) d (omega arith) (omega arith) in
    let rest : AllPairs R xs = λ i j d lt within. up (suc i) (suc j) d (omega arith) (omega arith) in
    AllPairs-cons R x (xs ++ ys) (All-append (R x) xs ys before_rest (All-weaker T (R x) (λ y h. cross x y (All-head S x xs s) h) ys t))
    (pairs_append R S T xs ys cross (All-tail S x xs s) t rest later)

all_then : (S T : Warning → Type 0) (xs ys : List Warning) → ((v w : Warning) → S v → T w → IsBefore v w) → AreAll S xs → AreAll T ys → AreAll (λ w. S w ⊎ T w) (xs ++ ys)
all_then S T xs ys cross first later = record {
  only = All-append (λ w. S w ⊎ T w) xs ys (All-weaker S (λ w. S w ⊎ T w) (λ w s. inl s) xs first.only) (All-weaker T (λ w. S w ⊎ T w) (λ w t. inr t) ys later.only);
  all = λ w h. ⊎_elim {C = Contains (xs ++ ys) w} (λ s. Contains-append_left xs ys w (first.all w s)) (λ t. Contains-append_right xs ys w (later.all w t)) h;
  in_order = pairs_append IsBefore S T xs ys cross first.only later.only first.in_order later.in_order;
}

pub all_same : (S T : Warning → Type 0) (xs : List Warning) → ((w : Warning) → S w → T w) → ((w : Warning) → T w → S w) → AreAll S xs → AreAll T xs
all_same S T xs to from h = record { only = All-weaker S T to xs h.only; all = λ w t. h.all w (from w t); in_order = h.in_order }

-- the same warnings, said otherwise
pub adds_same : (S T : Warning → Type 0) (a b : List Warning) → ((w : Warning) → S w → T w) → ((w : Warning) → T w → S w) → Adds S a b → Adds T a b
adds_same S T a b to from h = record { added = h.added; behind = h.behind; all = all_same S T h.added to from h.all }

-- first some, then others behind them
pub adds_then : (S T : Warning → Type 0) (a b d : List Warning) → ((v w : Warning) → S v → T w → IsBefore v w) → Adds S a b → Adds T b d → Adds (λ w. S w ⊎ T w) a d
adds_then S T a b d cross first later = record {
  added = first.added ++ later.added;
  behind = later.behind ∙ ap (λ l. l ++ later.added) first.behind ∙ append_assoc a first.added later.added;
  all = all_then S T first.added later.added cross first.all later.all;
}

-- where there is no warning, nothing is added
pub adds_none : (S : Warning → Type 0) (a b : List Warning) → ((w : Warning) → S w → ⊥) → b ≡ a → Adds S a b
adds_none S a b none is = record {
  added = [];
  behind = is ∙ sym (append-nil a);
  all = record { only = All-nil S; all = λ w s. absurd (none w s); in_order = λ i j d lt within. absurd (omega arith) };
}

-- one warning
pub adds_one : (S : Warning → Type 0) (a b : List Warning) (x : Warning) → S x → ((w : Warning) → S w → w ≡ x) → b ≡ a ++ x ∷ [] → Adds S a b
adds_one S a b x s one is = record {
  added = x ∷ [];
  behind = is;
  all = record {
    only = All-cons S x [] s (All-nil S);
    all = λ w t. subst (Contains (x ∷ [])) (sym (one w t)) (Contains-push [] x);
    in_order = λ i j d lt within. absurd (omega arith);
  };
}

-- what a list adds to an empty one
pub all_of_added : (S : Warning → Type 0) (a b : List Warning) → a ≡ [] → Adds S a b → AreAll S b
all_of_added S a b empty h = subst (AreAll S) (sym (h.behind ∙ ap (λ l. l ++ h.added) empty)) h.all

-- LISTS OF PLACES

-- a warning at one of the first places of a list
abbrev pub AmongFirst : {A : Type 0} → ℕ → List A → (ℕ → A → Warning → Type 0) → Warning → Type 0
AmongFirst {A} k xs Is w = (j : ℕ) × (x : A) × (j < k) × (slice_get xs j ≡ Some x) × Is j x w

pub adds_none_yet : {A : Type 0} (xs : List A) (F : ℕ → A → Warning → Type 0) (a : List Warning) → Adds (AmongFirst 0 xs F) a a
adds_none_yet xs F a = adds_none (AmongFirst 0 xs F) a a (λ w h. let lt = h.2 in absurd (omega (arith, lt))) refl

-- one place more
pub adds_more : {A : Type 0} (xs : List A) (F : ℕ → A → Warning → Type 0) (k : ℕ) (x : A) (a b d : List Warning)
    → ((i j : ℕ) (y z : A) (v w : Warning) → i < j → F i y v → F j z w → IsBefore v w)
    → slice_get xs k ≡ Some x
    → Adds (AmongFirst k xs F) a b → Adds (F k x) b d → Adds (AmongFirst (k + 1) xs F) a d
adds_more {A} xs F k x a b d ascend at before here =
    adds_same (λ w. AmongFirst k xs F w ⊎ F k x w) (AmongFirst (k + 1) xs F) a d
    (λ w h. ⊎_elim {C = AmongFirst (k + 1) xs F w} (λ s. (s.0, s.1, (let lt = s.2 in omega (arith, lt)), s.3, s.4)) (λ f. (k, x, omega arith, at, f)) h)
    from
    (adds_then (AmongFirst k xs F) (F k x) a b d (λ v w s f. ascend s.0 k s.1 x v w s.2 s.4 f) before here)
  where
    move : (w : Warning) (j : ℕ) (y : A) → j ≡ k → slice_get xs j ≡ Some y → F j y w → F k x w
    move w j y same there f =
        let item : y ≡ x = same_Some y x (sym there ∙ ap (slice_get xs) same ∙ at) in
        subst (λ i. F i x w) same (subst (λ z. F j z w) item f)

    by_place : (w : Warning) (h : AmongFirst (k + 1) xs F w) → (h.0 < k) ⊎ (k ≤ h.0) → AmongFirst k xs F w ⊎ F k x w
    by_place w h (inl lt) = inl (h.0, h.1, lt, h.3, h.4)
    by_place w h (inr le) = inr (move w h.0 h.1 (let lt = h.2 in omega (arith, lt, le)) h.3 h.4)

    from : (w : Warning) → AmongFirst (k + 1) xs F w → AmongFirst k xs F w ⊎ F k x w
    from w h = by_place w h (cases_lt h.0 k)

-- all places
pub adds_all : {A : Type 0} (xs : List A) (F : ℕ → A → Warning → Type 0) (k : ℕ) (a b : List Warning) → length xs ≤ k → Adds (AmongFirst k xs F) a b → Adds (Among xs F) a b
adds_all xs F k a b end before =
    adds_same (AmongFirst k xs F) (Among xs F) a b
    (λ w h. (h.0, h.1, h.3, h.4))
    (λ w h. (h.0, h.1, (let lt = slice_get_within xs h.0 h.1 h.2 in omega (arith, lt, end)), h.2, h.3))
    before
