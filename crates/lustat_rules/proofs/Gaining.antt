-- Lists that gain the faults of places.
use Rattle.std.proofs.Common.{◌≡◌, ◌∙◌, ◌<◌, ◌≤◌, ◌+◌, ◌++◌, ◌∷◌, [], ◌⊎◌, inl, inr, ⊎_elim, ℕ, List, Some, Contains, length, sym, ap, subst, arith}
use Rattle.std.specs.Prelude.{slice_get}
use Rattle.std.proofs.lemmas.Bool.{cases_lt}
use Rattle.std.proofs.lemmas.Option.{slice_get_within, same_Some}
use Rattle.std.proofs.lemmas.List.Elements.{Contains-append_left, Contains-push, Contains-push_cases}
use Rattle.lustat_rules.specs.declared.error.StatError.{StatError}
use Rattle.lustat_rules.specs.Faults.{FaultAmong}
use Rattle.lustat_rules.proofs.Judging.{FaultBefore}
use Rattle.lustat_rules.specs.AllFaults.{Gains}

-- where there is no fault, nothing is gained
pub gains_none : (F : StatError → Type 0) (a : List StatError) → ((e : StatError) → F e → ⊥) → Gains F a a
gains_none F a none e = (λ h. inl h, λ w. ⊎_elim {C = Contains a e} (λ h. h) (λ f. absurd (none e f)) w)

-- the same faults, said otherwise
pub gains_same : (S T : StatError → Type 0) (a b : List StatError) → ((e : StatError) → S e → T e) → ((e : StatError) → T e → S e) → Gains S a b → Gains T a b
gains_same S T a b to from h e = (
  λ k. ⊎_elim {C = Contains a e ⊎ T e} (λ old. inl old) (λ s. inr (to e s)) ((h e).0 k),
  λ w. (h e).1 (⊎_elim {C = Contains a e ⊎ S e} (λ old. inl old) (λ t. inr (from e t)) w),
)

-- first some, then others
pub gains_then : (S T : StatError → Type 0) (a b d : List StatError) → Gains S a b → Gains T b d → Gains (λ e. S e ⊎ T e) a d
gains_then S T a b d first later e = (
  λ k. ⊎_elim {C = Contains a e ⊎ (S e ⊎ T e)} (λ h. ⊎_elim {C = Contains a e ⊎ (S e ⊎ T e)} (λ old. inl old) (λ s. inr (inl s)) ((first e).0 h)) (λ t. inr (inr t)) ((later e).0 k),
  λ w. (later e).1 (⊎_elim {C = Contains b e ⊎ T e} (λ old. inl ((first e).1 (inl old))) (λ u. ⊎_elim {C = Contains b e ⊎ T e} (λ s. inl ((first e).1 (inr s))) (λ t. inr t) u) w),
)

-- one fault
pub gains_one : (a b : List StatError) (x : StatError) → b ≡ a ++ x ∷ [] → Gains (λ e. Some x ≡ Some e) a b
gains_one a b x is e = (
  λ k. ⊎_elim {C = Contains a e ⊎ (Some x ≡ Some e)} (λ old. inl old) (λ same. inr (ap Some same)) (Contains-push_cases a x e (subst (λ l. Contains l e) is k)),
  λ w. subst (λ l. Contains l e) (sym is) (⊎_elim {C = Contains (a ++ x ∷ []) e} (λ old. Contains-append_left a (x ∷ []) e old) (λ same. subst (λ y. Contains (a ++ x ∷ []) y) (same_Some x e same) (Contains-push a x)) w),
)

-- LISTS OF PLACES

pub gains_none_yet : {A : Type 0} (xs : List A) (F : ℕ → A → StatError → Type 0) (a : List StatError) → Gains (FaultBefore 0 xs F) a a
gains_none_yet xs F a = gains_none (FaultBefore 0 xs F) a (λ e h. let lt = h.2 in absurd (omega (arith, lt)))

-- one place more
pub gains_more : {A : Type 0} (xs : List A) (F : ℕ → A → StatError → Type 0) (k : ℕ) (x : A) (a b d : List StatError)
    → slice_get xs k ≡ Some x
    → Gains (FaultBefore k xs F) a b → Gains (F k x) b d → Gains (FaultBefore (k + 1) xs F) a d
gains_more {A} xs F k x a b d at before here =
    gains_same (λ e. FaultBefore k xs F e ⊎ F k x e) (FaultBefore (k + 1) xs F) a d
    (λ e w. ⊎_elim {C = FaultBefore (k + 1) xs F e} (λ h. (h.0, h.1, (let lt = h.2 in omega (arith, lt)), h.3, h.4)) (λ f. (k, x, omega arith, at, f)) w)
    from
    (gains_then (FaultBefore k xs F) (F k x) a b d before here)
  where
    move_fault : (e : StatError) (j : ℕ) (y : A) → j ≡ k → slice_get xs j ≡ Some y → F j y e → F k x e
    move_fault e j y same there f =
        let item : y ≡ x = same_Some y x (sym there ∙ ap (slice_get xs) same ∙ at) in
        subst (λ i. F i x e) same (subst (λ z. F j z e) item f)

    by_place : (e : StatError) (h : FaultBefore (k + 1) xs F e) → (h.0 < k) ⊎ (k ≤ h.0) → FaultBefore k xs F e ⊎ F k x e
    by_place e h (inl lt) = inl (h.0, h.1, lt, h.3, h.4)
    by_place e h (inr le) = inr (move_fault e h.0 h.1 (let lt = h.2 in omega (arith, lt, le)) h.3 h.4)

    from : (e : StatError) → FaultBefore (k + 1) xs F e → FaultBefore k xs F e ⊎ F k x e
    from e h = by_place e h (cases_lt h.0 k)

-- all places
pub gains_all : {A : Type 0} (xs : List A) (F : ℕ → A → StatError → Type 0) (k : ℕ) (a b : List StatError) → length xs ≤ k → Gains (FaultBefore k xs F) a b → Gains (FaultAmong xs F) a b
gains_all xs F k a b end before =
    gains_same (FaultBefore k xs F) (FaultAmong xs F) a b
    (λ e h. (h.0, h.1, h.3, h.4))
    (λ e h. (h.0, h.1, (let lt = slice_get_within xs h.0 h.1 h.2 in omega (arith, lt, end)), h.2, h.3))
    before
