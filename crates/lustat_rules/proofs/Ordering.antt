-- Faults by byte, at equal bytes by number.
use Rattle.std.proofs.Common.{◌≡◌, ◌∙◌, ◌<◌, ℕ, Bool, true, false, ◌&&◌, ◌||◌, ◌==◌, nat_eq, nat_lt, List, [], ◌⊎◌, inl, inr, ⊎_elim, length, get_or, All, Contains, IsTrue, refl, sym, ap, subst, arith, true≢false}
use Rattle.std.specs.Prelude.{cond, AllPairs}
use Rattle.std.specs.declared.cmp.Ordering.{Ordering}
use Rattle.std.specs.declared.cmp.Ordering.TheVariants.{Less, Equal, Greater}
use Rattle.std.specs.Ordering.{nat_cmp, is_lt, is_eq, ordering_then, on, then_cmp, eq_of_both, eq_by_cmp}
use Rattle.std.specs.Cmp.{IsTotalOrder, IsEquivalence, unsigned_ties}
use Rattle.std.specs.Fn.{Called, ComputesKey}
use Rattle.std.specs.List.{dedup}
use Rattle.std.specs.List.Sorted.{IsPermutation, IsSorted, IsSortedByKey, IsStrictlySortedBy}
use Rattle.std.proofs.lemmas.Cmp.{nat_cmp_total, nat_eq_equiv, on_total, then_total, on_equiv, and_equiv}
use Rattle.std.proofs.lemmas.Bool.Decides.{nat_tests}
use Rattle.std.proofs.lemmas.Fn.{always_returns_same}
use Rattle.std.proofs.lemmas.List.Elements.{All-weaker, All-contains_itself}
use Rattle.std.proofs.lemmas.List.Kept.{IsStrictlySortedBy-dedup, Contains-dedup, Contains-from_dedup}
use Rattle.std.proofs.lemmas.List.Sorted.{Contains-permutation, IsPermutation-sym}
use Rattle.std.proofs.lemmas.Map.Keys.{Less-from_sorted}
use denote.Param.Members.{Mut}
use denote.Ref.{Bor}
use Rattle.lustat_rules.specs.declared.error.StatError.{StatError}
use Rattle.lustat_rules.specs.Reported.{byte_of, number_of}
use Rattle.lustat_rules.specs.Faults.{is_before}
use Rattle.lustat_rules.specs.AllFaults.{AreAllFaults, Gains}
use Rattle.lustat_rules.proofs.Telling.{same_place}

abbrev pub by_place : StatError → StatError → Ordering
by_place = then_cmp (on byte_of nat_cmp) (on number_of nat_cmp)

by_place_total : IsTotalOrder by_place
by_place_total = then_total (on_total byte_of nat_cmp_total) (on_total number_of nat_cmp_total)

-- what a sort by byte and number ensures
pub sorted_by_place : {F : Type 0} {g : Mut F (Bor StatError × Unit {0}) (ℕ × ℕ)} {f : F} (xs : List StatError)
    → ((key : StatError → ℕ × ℕ) → ComputesKey g key f → IsSortedByKey key (λ a b. ordering_then (nat_cmp a.0 b.0) (nat_cmp a.1 b.1)) xs)
    → ((a : Bor StatError × Unit {0}) (r : ℕ × ℕ) (f' : F) → Called g f a r f' → (r ≡ (byte_of a.0.now, number_of a.0.now)) × (f' ≡ f))
    → IsSorted by_place xs
sorted_by_place {g = g} {f = f} xs up each = up (λ e. (byte_of e, number_of e)) (always_returns_same g (λ a r. r ≡ (byte_of a.0.now, number_of a.0.now)) f each)

-- the same byte and the same number
abbrev pub is_same : StatError → StatError → Bool
is_same = eq_of_both (on byte_of nat_eq) (on number_of nat_eq)

is_same_equiv : IsEquivalence is_same
is_same_equiv = and_equiv (on_equiv byte_of nat_eq_equiv) (on_equiv number_of nat_eq_equiv)

both_equal : (o p : Ordering) → (is_eq o && is_eq p) ≡ is_eq (ordering_then o p)
both_equal Less p = refl
both_equal Equal p = refl
both_equal Greater p = refl

is_same_ties : (e f : StatError) → is_same e f ≡ eq_by_cmp by_place e f
is_same_ties e f =
    ap (λ b. b && nat_eq (number_of e) (number_of f)) (unsigned_ties (byte_of e) (byte_of f)) ∙ ap (λ b. eq_by_cmp nat_cmp (byte_of e) (byte_of f) && b) (unsigned_ties (number_of e) (number_of f))
    ∙ both_equal (nat_cmp (byte_of e) (byte_of f)) (nat_cmp (number_of e) (number_of f))

is_same_true : (e f : StatError) → is_same e f ≡ true → e ≡ f
is_same_true e f h = same_place e f (grind (arith, nat_tests)) (grind (arith, nat_tests))

-- by the tests of two pairs of numbers
less_before : (p q r s : Bool) → ordering_then (cond p Less (cond q Equal Greater)) (cond r Less (cond s Equal Greater)) ≡ Less → (p || (q && r)) ≡ true
less_before true q r s h = refl
less_before false true true s h = refl
less_before false true false true h = absurd (cc)
less_before false true false false h = absurd (cc)
less_before false false r s h = absurd (cc)

before_less : (e f : StatError) → by_place e f ≡ Less → is_before e f ≡ true
before_less e f h = less_before (nat_lt (byte_of e) (byte_of f)) (nat_eq (byte_of e) (byte_of f)) (nat_lt (number_of e) (number_of f)) (nat_eq (number_of e) (number_of f)) h

-- sorted, and each once
pub all_in_order : (xs ys zs : List StatError) → IsPermutation xs ys → IsSorted by_place ys → zs ≡ dedup is_same ys → AreAllFaults (Contains xs) zs
all_in_order xs ys zs moved sorted is =
    subst (AreAllFaults (Contains xs)) (sym is)
    (let strict = IsStrictlySortedBy-dedup by_place_total is_same_ties ys sorted in
    record {
      only = All-weaker (Contains (dedup is_same ys)) (Contains xs) (λ e h. Contains-permutation ys xs e (IsPermutation-sym xs ys moved) (Contains-from_dedup is_same ys e h)) (dedup is_same ys) (All-contains_itself (dedup is_same ys));
      all = λ e h. Contains-dedup is_same_equiv is_same_true ys e (Contains-permutation xs ys e moved h);
      ascend = λ i j d lt end. before_less (get_or (dedup is_same ys) i d) (get_or (dedup is_same ys) j d) (Less-from_sorted by_place (dedup is_same ys) i j d strict lt end);
    })

-- what is a fault may be said otherwise
pub all_faults_same : (S T : StatError → Type 0) (xs : List StatError) → ((e : StatError) → S e → T e) → ((e : StatError) → T e → S e) → AreAllFaults S xs → AreAllFaults T xs
all_faults_same S T xs to from h = record { only = All-weaker S T to xs h.only; all = λ e t. h.all e (from e t); ascend = h.ascend }

-- the faults that an empty list gained, in order
pub all_of_gained : (F : StatError → Type 0) (none found xs : List StatError) → none ≡ [] → Gains F none found → AreAllFaults (Contains found) xs → AreAllFaults F xs
all_of_gained F none found xs empty gained h = all_faults_same (Contains found) F xs to (λ e f. (gained e).1 (inr f)) h
  where
    nothing : (e : StatError) → Contains none e → ⊥
    nothing e k = let has : Contains [] e = subst (λ l. Contains l e) empty k in let lt = has.1 in absurd (omega (arith, lt))

    to : (e : StatError) → Contains found e → F e
    to e k = ⊎_elim {C = F e} (λ old. absurd (nothing e old)) (λ f. f) ((gained e).0 k)
