-- From faults of single places to those of a program.
use Rattle.std.proofs.Common.{◌≡◌, ◌∙◌, ◌↔◌, ◌<◌, ◌≤◌, ◌⊎◌, inl, inr, ⊎_elim, ℕ, ◌+◌, Bool, true, false, ◌&&◌, ◌||◌, nat_eq, nat_lt, if◌then◌else◌, List, length, Option, Some, None, IsTrue, refl, sym, ap, subst, arith, true≢false}
use Rattle.std.specs.Prelude.{slice_get}
use Rattle.std.proofs.lemmas.Bool.{cases_lt}
use Rattle.std.proofs.lemmas.Bool.Decides.{nat_tests}
use Rattle.std.proofs.lemmas.Option.{slice_get_within}
use Rattle.lustat_rules.specs.Accepted.{Rule}
use Rattle.lustat_rules.specs.declared.error.StatError.{StatError}
use Rattle.lustat_rules.specs.Reported.{rule_of, byte_of, number_of, number_reported}
use Rattle.lustat_rules.specs.Faults.{is_before, lesser_of, IsAtMost, IsJudged, FaultAmong, KeptAmong}

-- WHAT IS TOLD FIRST

at_most_trans : (e f g : StatError) → IsAtMost e f → IsAtMost f g → IsAtMost e g
at_most_trans e f g (inl a) (inl b) = inl (omega (arith, a, b))
at_most_trans e f g (inl a) (inr b) = inl (let h = b.0 in omega (arith, a, h))
at_most_trans e f g (inr a) (inl b) = inl (let h = a.0 in omega (arith, h, b))
at_most_trans e f g (inr a) (inr b) = inr (a.0 ∙ b.0, (let h = a.1 in let k = b.1 in omega (arith, h, k)))

before_numbers : (a b m n : ℕ) → (nat_lt a b || (nat_eq a b && nat_lt m n)) ≡ true → (a < b) ⊎ ((a ≡ b) × (m ≤ n))
before_numbers a b m n h = go (cases_lt a b)
  where
    go : (a < b) ⊎ (b ≤ a) → (a < b) ⊎ ((a ≡ b) × (m ≤ n))
    go (inl lt) = inl lt
    go (inr le) = inr (grind (arith, nat_tests), grind (arith, nat_tests))

not_before_numbers : (a b m n : ℕ) → (nat_lt a b || (nat_eq a b && nat_lt m n)) ≡ false → (b < a) ⊎ ((b ≡ a) × (n ≤ m))
not_before_numbers a b m n h = go (cases_lt b a)
  where
    go : (b < a) ⊎ (a ≤ b) → (b < a) ⊎ ((b ≡ a) × (n ≤ m))
    go (inl lt) = inl lt
    go (inr le) = inr (grind (arith, nat_tests), grind (arith, nat_tests))

before_at_most : (e f : StatError) → is_before e f ≡ true → IsAtMost e f
before_at_most e f h = before_numbers (byte_of e) (byte_of f) (number_of e) (number_of f) h

not_before_at_most : (e f : StatError) → is_before e f ≡ false → IsAtMost f e
not_before_at_most e f h = not_before_numbers (byte_of e) (byte_of f) (number_of e) (number_of f) h

-- JUDGEMENTS

-- one rule at one place
abbrev pub RuleFault : Rule → ℕ → Type 0 → StatError → Type 0
RuleFault rule byte Kept e = (rule_of e ≡ Some rule) × (byte_of e ≡ byte) × (¬ Kept)

pub judged_rule : (rule : Rule) (byte : ℕ) (Kept : Type 0) (b : Bool) (e : StatError) → rule_of e ≡ Some rule → byte_of e ≡ byte → (IsTrue b ↔ Kept)
    → IsJudged (RuleFault rule byte Kept) Kept (if b then None else Some e)
judged_rule rule byte Kept true e r at same = (same.0 refl, λ f h. h.2 (same.0 refl))
judged_rule rule byte Kept false e r at same =
    ((r, at, λ k. true≢false (sym (same.1 k))), λ f h. inr (at ∙ sym h.1, (let n : number_of e ≡ number_of f = ap number_reported (r ∙ sym h.0) in omega (arith, n))))

judged_two : (S T : StatError → Type 0) (P Q : Type 0) (e f : StatError) (b : Bool) → is_before f e ≡ b
    → IsJudged S P (Some e) → IsJudged T Q (Some f) → IsJudged (λ g. S g ⊎ T g) (P × Q) (if b then Some f else Some e)
judged_two S T P Q e f true h s t =
    (inr t.0, λ g w. ⊎_elim {C = IsAtMost f g} (λ k. at_most_trans f e g (before_at_most f e h) (s.1 g k)) (λ k. t.1 g k) w)
judged_two S T P Q e f false h s t =
    (inl s.0, λ g w. ⊎_elim {C = IsAtMost e g} (λ k. s.1 g k) (λ k. at_most_trans e f g (not_before_at_most f e h) (t.1 g k)) w)

pub judged_both : (S T : StatError → Type 0) (P Q : Type 0) (a b : Option StatError) → IsJudged S P a → IsJudged T Q b → IsJudged (λ e. S e ⊎ T e) (P × Q) (lesser_of a b)
judged_both S T P Q None None s t = ((s.0, t.0), λ e w. ⊎_elim {C = ⊥} (λ k. s.1 e k) (λ k. t.1 e k) w)
judged_both S T P Q None (Some f) s t = (inr t.0, λ g w. ⊎_elim {C = IsAtMost f g} (λ k. absurd (s.1 g k)) (λ k. t.1 g k) w)
judged_both S T P Q (Some e) None s t = (inl s.0, λ g w. ⊎_elim {C = IsAtMost e g} (λ k. s.1 g k) (λ k. absurd (t.1 g k)) w)
judged_both S T P Q (Some e) (Some f) s t = judged_two S T P Q e f (is_before f e) refl s t

pub judged_same : (S T : StatError → Type 0) (P Q : Type 0) (o : Option StatError) → ((e : StatError) → S e → T e) → ((e : StatError) → T e → S e) → (P → Q) → IsJudged S P o → IsJudged T Q o
judged_same S T P Q None to from kept h = (kept h.0, λ e t. h.1 e (from e t))
judged_same S T P Q (Some e) to from kept h = (to e h.0, λ f t. h.1 f (from f t))

-- LISTS OF PLACES

abbrev pub FaultBefore : {A : Type 0} → ℕ → List A → (ℕ → A → StatError → Type 0) → StatError → Type 0
FaultBefore {A} k xs F e = (j : ℕ) × (x : A) × (j < k) × (slice_get xs j ≡ Some x) × F j x e

abbrev pub KeptBefore : {A : Type 0} → ℕ → List A → (ℕ → A → Type 0) → Type 0
KeptBefore {A} k xs Q = (j : ℕ) (x : A) → j < k → slice_get xs j ≡ Some x → Q j x

pub judged_none_yet : {A : Type 0} (xs : List A) (F : ℕ → A → StatError → Type 0) (Q : ℕ → A → Type 0) → IsJudged (FaultBefore 0 xs F) (KeptBefore 0 xs Q) None
judged_none_yet xs F Q = (λ j x lt. absurd (omega (arith, lt)), λ e h. let lt = h.2 in absurd (omega (arith, lt)))

same_item : {A : Type 0} (xs : List A) (j k : ℕ) (x y : A) → j ≡ k → slice_get xs j ≡ Some x → slice_get xs k ≡ Some y → Some y ≡ Some x
same_item xs j k x y e a b = sym b ∙ ap (slice_get xs) (sym e) ∙ a

some_same : {A : Type 0} (x y : A) → Some x ≡ Some y → x ≡ y
some_same x y e = cc

-- one place more
pub judged_more : {A : Type 0} (xs : List A) (F : ℕ → A → StatError → Type 0) (Q : ℕ → A → Type 0) (k : ℕ) (x : A) (best o : Option StatError)
    → slice_get xs k ≡ Some x
    → IsJudged (FaultBefore k xs F) (KeptBefore k xs Q) best → IsJudged (F k x) (Q k x) o
    → IsJudged (FaultBefore (k + 1) xs F) (KeptBefore (k + 1) xs Q) (lesser_of best o)
judged_more {A} xs F Q k x best o at before here =
    judged_same (λ e. FaultBefore k xs F e ⊎ F k x e) (FaultBefore (k + 1) xs F) (KeptBefore k xs Q × Q k x) (KeptBefore (k + 1) xs Q) (lesser_of best o)
    (λ e w. ⊎_elim {C = FaultBefore (k + 1) xs F e} (λ h. (h.0, h.1, (let lt = h.2 in omega (arith, lt)), h.3, h.4)) (λ f. (k, x, omega arith, at, f)) w)
    from
    kept
    (judged_both (FaultBefore k xs F) (F k x) (KeptBefore k xs Q) (Q k x) best o before here)
  where
    move_fault : (e : StatError) (j : ℕ) (y : A) → j ≡ k → slice_get xs j ≡ Some y → F j y e → F k x e
    move_fault e j y same there f =
        let item : y ≡ x = some_same y x (sym there ∙ ap (slice_get xs) same ∙ at) in
        subst (λ i. F i x e) same (subst (λ z. F j z e) item f)

    from_cases : (e : StatError) (h : FaultBefore (k + 1) xs F e) → (h.0 < k) ⊎ (k ≤ h.0) → FaultBefore k xs F e ⊎ F k x e
    from_cases e h (inl lt) = inl (h.0, h.1, lt, h.3, h.4)
    from_cases e h (inr le) = inr (move_fault e h.0 h.1 (let lt = h.2 in omega (arith, lt, le)) h.3 h.4)

    from : (e : StatError) → FaultBefore (k + 1) xs F e → FaultBefore k xs F e ⊎ F k x e
    from e h = from_cases e h (cases_lt h.0 k)

    kept_cases : KeptBefore k xs Q × Q k x → (j : ℕ) (y : A) → j < k + 1 → slice_get xs j ≡ Some y → (j < k) ⊎ (k ≤ j) → Q j y
    kept_cases h j y lt there (inl less) = h.0 j y less there
    kept_cases h j y lt there (inr le) =
        let same : j ≡ k = omega (arith, lt, le) in
        let item : y ≡ x = some_same y x (sym there ∙ ap (slice_get xs) same ∙ at) in
        subst (λ z. Q j z) (sym item) (subst (λ i. Q i x) (sym same) h.1)

    kept : KeptBefore k xs Q × Q k x → KeptBefore (k + 1) xs Q
    kept h j y lt there = kept_cases h j y lt there (cases_lt j k)

-- all places
pub judged_all : {A : Type 0} (xs : List A) (F : ℕ → A → StatError → Type 0) (Q : ℕ → A → Type 0) (k : ℕ) (best : Option StatError)
    → length xs ≤ k
    → IsJudged (FaultBefore k xs F) (KeptBefore k xs Q) best
    → IsJudged (FaultAmong xs F) (KeptAmong xs Q) best
judged_all xs F Q k best end before =
    judged_same (FaultBefore k xs F) (FaultAmong xs F) (KeptBefore k xs Q) (KeptAmong xs Q) best
    (λ e h. (h.0, h.1, h.3, h.4))
    (λ e h. (h.0, h.1, (let lt = slice_get_within xs h.0 h.1 h.2 in omega (arith, lt, end)), h.2, h.3))
    (λ h j x there. h j x (let lt = slice_get_within xs j x there in omega (arith, lt, end)) there)
    before

-- the same of what was reported
pub judged_reported : (rule : Rule) (byte : ℕ) (Kept : Type 0) (b : Bool) (e : StatError) (o : Option StatError) → o ≡ (if b then None else Some e) → rule_of e ≡ Some rule → byte_of e ≡ byte → (IsTrue b ↔ Kept)
    → IsJudged (RuleFault rule byte Kept) Kept o
judged_reported rule byte Kept b e o is r at same = subst (IsJudged (RuleFault rule byte Kept) Kept) (sym is) (judged_rule rule byte Kept b e r at same)

-- one place more, in a loop
pub judged_step : {A : Type 0} (xs : List A) (F : ℕ → A → StatError → Type 0) (Q : ℕ → A → Type 0) (k : ℕ) (x : A) (best o r : Option StatError)
    → slice_get xs k ≡ Some x → r ≡ lesser_of best o
    → IsJudged (FaultBefore k xs F) (KeptBefore k xs Q) best → IsJudged (F k x) (Q k x) o
    → IsJudged (FaultBefore (k + 1) xs F) (KeptBefore (k + 1) xs Q) r
judged_step xs F Q k x best o r at is before here =
    subst (IsJudged (FaultBefore (k + 1) xs F) (KeptBefore (k + 1) xs Q)) (sym is) (judged_more xs F Q k x best o at before here)

-- two checks joined
pub judged_joined : (S T : StatError → Type 0) (P Q : Type 0) (a b r : Option StatError) → r ≡ lesser_of a b → IsJudged S P a → IsJudged T Q b → IsJudged (λ e. S e ⊎ T e) (P × Q) r
judged_joined S T P Q a b r is s t = subst (IsJudged (λ e. S e ⊎ T e) (P × Q)) (sym is) (judged_both S T P Q a b s t)
