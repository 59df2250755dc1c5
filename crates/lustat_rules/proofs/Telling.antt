-- What rows of rules tell of places.
use Rattle.std.proofs.Common.{◌≡◌, ◌∙◌, ◌↔◌, ◌≤◌, ◌<◌, ◌++◌, ◌∷◌, [], ◌⊎◌, inl, inr, ⊎_elim, ℕ, Bool, true, false, nat_eq, if◌then◌else◌, List, length, Option, Some, None, IsTrue, All, Contains, refl, sym, ap, subst, arith, true≢false}
use Rattle.std.specs.Prelude.{fold, slice_get}
use Rattle.std.proofs.lemmas.Option.{same_Some, slice_get_within, slice_get_read, get_or_from_slice_get}
use Rattle.std.proofs.lemmas.List.Elements.{All-nil, All-cons, All-head, All-tail, Contains-append_left, Contains-append_right, Contains-append_cases, Contains-push, Contains-push_cases}
use Rattle.lustat_rules.specs.Accepted.{Rule}
use Rattle.lustat_rules.specs.declared.error.StatError.{StatError}
use Rattle.lustat_rules.specs.declared.error.StatError.TheVariants.{DuplicateName, UnknownName, UnknownNode, TypeMismatch, WrongArity, Undefined, DefinedTwice, RecursiveNode, ClockMismatch, NotAClock, ClockedParameter, HiddenClock, MaybeNil, CurrentMayBeNil, NoMain, BadMerge, OutOfMemory}
use Rattle.lustat_rules.specs.Reported.{rule_of, byte_of, number_of, number_reported}
use Rattle.lustat_rules.specs.Faults.{lesser_of, IsAtMost, IsJudged, FaultAmong}
use Rattle.lustat_rules.proofs.Judging.{RuleFault, judged_both, judged_same}
use Rattle.lustat_rules.specs.AllFaults.{Gains}
use Rattle.lustat_rules.specs.Told.{Tells, least_in}
use Rattle.lustat_rules.proofs.Gaining.{gains_same}

-- NUMBERS AND BYTES

-- the fault of a number at a byte
abbrev numbered : ℕ → ℕ → StatError
numbered n byte =
    if nat_eq n 10 then DuplicateName byte else (if nat_eq n 11 then UnknownName byte else (if nat_eq n 12 then UnknownNode byte else (if nat_eq n 13 then TypeMismatch byte else (if nat_eq n 14 then WrongArity byte else (
    if nat_eq n 15 then Undefined byte else (if nat_eq n 16 then DefinedTwice byte else (if nat_eq n 17 then RecursiveNode byte else (if nat_eq n 18 then NoMain else (if nat_eq n 19 then BadMerge byte else (
    if nat_eq n 20 then ClockMismatch byte else (if nat_eq n 21 then NotAClock byte else (if nat_eq n 22 then ClockedParameter byte else (if nat_eq n 23 then HiddenClock byte else (
    if nat_eq n 30 then MaybeNil byte else (if nat_eq n 31 then CurrentMayBeNil byte else OutOfMemory)))))))))))))))

numbered_itself : (e : StatError) → numbered (number_of e) (byte_of e) ≡ e
numbered_itself (DuplicateName byte) = refl
numbered_itself (UnknownName byte) = refl
numbered_itself (UnknownNode byte) = refl
numbered_itself (TypeMismatch byte) = refl
numbered_itself (WrongArity byte) = refl
numbered_itself (Undefined byte) = refl
numbered_itself (DefinedTwice byte) = refl
numbered_itself (RecursiveNode byte) = refl
numbered_itself NoMain = refl
numbered_itself (BadMerge byte) = refl
numbered_itself (ClockMismatch byte) = refl
numbered_itself (NotAClock byte) = refl
numbered_itself (ClockedParameter byte) = refl
numbered_itself (HiddenClock byte) = refl
numbered_itself (MaybeNil byte) = refl
numbered_itself (CurrentMayBeNil byte) = refl
numbered_itself OutOfMemory = refl

-- a fault is known by its byte and its number
pub same_place : (e f : StatError) → byte_of e ≡ byte_of f → number_of e ≡ number_of f → e ≡ f
same_place e f at n = sym (numbered_itself e) ∙ ap (λ k. numbered k (byte_of e)) n ∙ ap (λ b. numbered (number_of f) b) at ∙ numbered_itself f

-- by its byte and its rule
pub same_rule : (e f : StatError) (rule : Rule) (byte : ℕ) → rule_of e ≡ Some rule → byte_of e ≡ byte → rule_of f ≡ Some rule → byte_of f ≡ byte → e ≡ f
same_rule e f rule byte r at s there = same_place e f (at ∙ sym there) (ap number_reported (r ∙ sym s))

-- ONE RULE

-- the fault of a place, if there is one, where there is one at most
pub record TellsOne (F : StatError → Type 0) (Kept : Type 0) (o : Option StatError) : Type 0 where
  pub faults : (e : StatError) → (o ≡ Some e) ↔ F e
  pub kept : o ≡ None → Kept

rule_told : (rule : Rule) (byte : ℕ) (Kept : Type 0) (b : Bool) (e : StatError) → rule_of e ≡ Some rule → byte_of e ≡ byte → (IsTrue b ↔ Kept)
    → TellsOne (RuleFault rule byte Kept) Kept (if b then None else Some e)
rule_told rule byte Kept true e r at same =
    record { faults = λ f. (λ is. absurd (cc), λ h. absurd (h.2 (same.0 refl))); kept = λ is. same.0 refl }
rule_told rule byte Kept false e r at same =
    record {
      faults = λ f. (λ is. subst (RuleFault rule byte Kept) (same_Some e f is) (r, at, λ k. true≢false (sym (same.1 k))), λ h. ap Some (same_rule e f rule byte r at h.0 h.1));
      kept = λ is. absurd (cc);
    }

-- what `reported` gives
pub told_reported : (rule : Rule) (byte : ℕ) (Kept : Type 0) (b : Bool) (e : StatError) (o : Option StatError) → o ≡ (if b then None else Some e) → rule_of e ≡ Some rule → byte_of e ≡ byte → (IsTrue b ↔ Kept)
    → TellsOne (RuleFault rule byte Kept) Kept o
told_reported rule byte Kept b e o is r at same = subst (TellsOne (RuleFault rule byte Kept) Kept) (sym is) (rule_told rule byte Kept b e r at same)

-- the least fault of a place that can break one rule only is its only one
pub only_judged : (F : StatError → Type 0) (Kept : Type 0) (o : Option StatError) (rule : Rule) (byte : ℕ) → ((e : StatError) → F e → (rule_of e ≡ Some rule) × (byte_of e ≡ byte)) → IsJudged F Kept o → (e : StatError) → (o ≡ Some e) ↔ F e
only_judged F Kept None rule byte one judged e = (λ is. absurd (cc), λ f. absurd (judged.1 e f))
only_judged F Kept (Some g) rule byte one judged e =
    (λ is. subst F (same_Some g e is) judged.0, λ f. ap Some (same_rule g e rule byte (one g judged.0).0 (one g judged.0).1 (one e f).0 (one e f).1))

-- ROWS

row_cases : (o : Option StatError) (row : List (Option StatError)) (x : Option StatError) → Contains (o ∷ row) x → (o ≡ x) ⊎ Contains row x
row_cases o row x h =
    ⊎_elim {C = (o ≡ x) ⊎ Contains row x}
    (λ k. ⊎_elim {C = (o ≡ x) ⊎ Contains row x} (λ none. absurd (let lt = none.1 in omega (arith, lt))) (λ same. inl same) (Contains-push_cases [] o x k))
    (λ k. inr k)
    (Contains-append_cases (o ∷ []) row x h)

row_first : (o : Option StatError) (row : List (Option StatError)) (x : Option StatError) → o ≡ x → Contains (o ∷ row) x
row_first o row x same = subst (λ y. Contains (o ∷ row) y) same (Contains-append_left (o ∷ []) row o (Contains-push [] o))

row_later : (o : Option StatError) (row : List (Option StatError)) (x : Option StatError) → Contains row x → Contains (o ∷ row) x
row_later o row x h = Contains-append_right (o ∷ []) row x h

pub tells_last : (F : StatError → Type 0) (Kept : Type 0) (o : Option StatError) → TellsOne F Kept o → Tells F Kept (o ∷ [])
tells_last F Kept o one =
    record {
      faults = λ e.
          (λ h. (one.faults e).0 (⊎_elim {C = o ≡ Some e} (λ same. same) (λ none. absurd (let lt = none.1 in omega (arith, lt))) (row_cases o [] (Some e) h)), λ f. row_first o [] (Some e) ((one.faults e).1 f));
      kept = λ none. one.kept (All-head (λ p. p ≡ None) o [] none);
    }

pub tells_more : (S T : StatError → Type 0) (P Q : Type 0) (o : Option StatError) (row : List (Option StatError)) → TellsOne S P o → Tells T Q row → Tells (λ e. S e ⊎ T e) (P × Q) (o ∷ row)
tells_more S T P Q o row one others =
    record {
      faults = λ e. (
        λ h. ⊎_elim {C = S e ⊎ T e} (λ same. inl ((one.faults e).0 same)) (λ k. inr ((others.faults e).0 k)) (row_cases o row (Some e) h),
        λ w. ⊎_elim {C = Contains (o ∷ row) (Some e)} (λ s. row_first o row (Some e) ((one.faults e).1 s)) (λ t. row_later o row (Some e) ((others.faults e).1 t)) w,
      );
      kept = λ none. (one.kept (All-head (λ p. p ≡ None) o row none), others.kept (All-tail (λ p. p ≡ None) o row none));
    }

pub tells_same : (S T : StatError → Type 0) (P Q : Type 0) (row : List (Option StatError)) → ((e : StatError) → S e → T e) → ((e : StatError) → T e → S e) → (P → Q) → Tells S P row → Tells T Q row
tells_same S T P Q row to from kept told =
    record { faults = λ e. (λ h. to e ((told.faults e).0 h), λ t. (told.faults e).1 (from e t)); kept = λ none. kept (told.kept none) }

-- what is gained of a row is what it tells
pub gains_told : (F : StatError → Type 0) (Kept : Type 0) (row : List (Option StatError)) (a b : List StatError) → Tells F Kept row → Gains (λ e. Contains row (Some e)) a b → Gains F a b
gains_told F Kept row a b told gained = gains_same (λ e. Contains row (Some e)) F a b (λ e h. (told.faults e).0 h) (λ e f. (told.faults e).1 f) gained

-- and of a single fault
pub gains_only : (F : StatError → Type 0) (Kept : Type 0) (o : Option StatError) (rule : Rule) (byte : ℕ) (a b : List StatError) → ((e : StatError) → F e → (rule_of e ≡ Some rule) × (byte_of e ≡ byte)) → IsJudged F Kept o
    → Gains (λ e. o ≡ Some e) a b → Gains F a b
gains_only F Kept o rule byte a b one judged gained =
    let same = only_judged F Kept o rule byte one judged in
    gains_same (λ e. o ≡ Some e) F a b (λ e h. (same e).0 h) (λ e f. (same e).1 f) gained

-- THE LEAST OF A ROW

one_judged : (x : Option StatError) → IsJudged (λ e. x ≡ Some e) (x ≡ None) x
one_judged None = (refl, λ e is. absurd (cc))
one_judged (Some g) = (refl, λ f is. let same : g ≡ f = same_Some g f is in inr (ap byte_of same, (let n = ap number_of same in omega (arith, n))))

row_judged : (S : StatError → Type 0) (P : Type 0) (best : Option StatError) (row : List (Option StatError)) → IsJudged S P best → IsJudged (λ e. S e ⊎ Contains row (Some e)) (P × All (λ o. o ≡ None) row) (fold lesser_of best row)
row_judged S P best [] judged =
    judged_same S (λ e. S e ⊎ Contains [] (Some e)) P (P × All (λ o. o ≡ None) []) best
    (λ e s. inl s)
    (λ e w. ⊎_elim {C = S e} (λ s. s) (λ none. absurd (let lt = none.1 in omega (arith, lt))) w)
    (λ p. (p, All-nil (λ o. o ≡ None)))
    judged
row_judged S P best (x ∷ row) judged =
    let both = judged_both S (λ e. x ≡ Some e) P (x ≡ None) best x judged (one_judged x) in
    judged_same (λ e. (S e ⊎ (x ≡ Some e)) ⊎ Contains row (Some e)) (λ e. S e ⊎ Contains (x ∷ row) (Some e)) ((P × (x ≡ None)) × All (λ o. o ≡ None) row) (P × All (λ o. o ≡ None) (x ∷ row)) (fold lesser_of (lesser_of best x) row)
    (λ e w. ⊎_elim {C = S e ⊎ Contains (x ∷ row) (Some e)} (λ u. ⊎_elim {C = S e ⊎ Contains (x ∷ row) (Some e)} (λ s. inl s) (λ is. inr (row_first x row (Some e) is)) u) (λ k. inr (row_later x row (Some e) k)) w)
    (λ e w. ⊎_elim {C = (S e ⊎ (x ≡ Some e)) ⊎ Contains row (Some e)} (λ s. inl (inl s)) (λ k. ⊎_elim {C = (S e ⊎ (x ≡ Some e)) ⊎ Contains row (Some e)} (λ is. inl (inr is)) (λ l. inr l) (row_cases x row (Some e) k)) w)
    (λ k. (k.0.0, All-cons (λ o. o ≡ None) x row k.0.1 k.1))
    (row_judged (λ e. S e ⊎ (x ≡ Some e)) (P × (x ≡ None)) (lesser_of best x) row both)

-- the least of a row is judged by what the row tells
pub judged_told : (F : StatError → Type 0) (Kept : Type 0) (row : List (Option StatError)) (o : Option StatError) → o ≡ least_in row → Tells F Kept row → IsJudged F Kept o
judged_told F Kept row o is told =
    subst (IsJudged F Kept) (sym is)
    (judged_same (λ e. ⊥ ⊎ Contains row (Some e)) F (Unit {0} × All (λ p. p ≡ None) row) Kept (fold lesser_of None row)
    (λ e w. ⊎_elim {C = F e} (λ no. absurd no) (λ h. (told.faults e).0 h) w)
    (λ e f. inr ((told.faults e).1 f))
    (λ k. told.kept k.1)
    (row_judged (λ _. ⊥) (Unit {0}) None row (tt, λ e no. no)))

-- a row as places
pub among_row : (row : List (Option StatError)) (e : StatError) → FaultAmong row (λ (_ : ℕ) (o : Option StatError) (f : StatError). o ≡ Some f) e → Contains row (Some e)
among_row row e h = (h.0, slice_get_within row h.0 h.1 h.2, get_or_from_slice_get row h.0 h.1 (Some e) h.2 ∙ h.3)

pub row_among : (row : List (Option StatError)) (e : StatError) → Contains row (Some e) → FaultAmong row (λ (_ : ℕ) (o : Option StatError) (f : StatError). o ≡ Some f) e
row_among row e h = (h.0, Some e, slice_get_read row (length row) h.0 (Some e) refl h.1 (sym h.2), refl)
