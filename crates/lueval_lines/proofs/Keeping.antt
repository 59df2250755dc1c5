-- The numbers of the variables that are kept, one variable after the other.
use Rattle.std.proofs.Common.{◌≡◌, ℕ, ◌+◌, ◌<◌, ◌≤◌, inl, inr, true, false, List, [], ◌∷◌, ◌++◌, length, Some, subst, sym, ap, ◌∙◌, arith}
use Rattle.std.specs.Prelude.{All, Contains, slice_get, slice_index}
use Rattle.std.proofs.lemmas.Bool.{cases_lt}
use Rattle.std.proofs.lemmas.List.{length_push, get_or_push, get_or_append_left}
use Rattle.std.proofs.lemmas.List.Elements.{All-nil, All-cons, All-append, All-weaker, All-get_or, Contains-append_left, Contains-push}
use Rattle.std.proofs.lemmas.Option.{same_Some}
use Rattle.luflow.specs.declared.variable.Variable.{Variable}
use Rattle.lueval_lines.specs.declared.columns.Wanted.{Wanted}
use Rattle.lueval_lines.specs.Columns.{is_wanted, AreKept, IsWantedAt}

-- of the variables below v, those that are wanted are kept, in order, and no others
pub record KeptTo (wanted : Wanted) (variables : List Variable) (kept : List ℕ) (v : ℕ) : Type 0 where
  pub few : length kept ≤ v
  pub inside : All (λ w. w < v) kept
  pub ascending : (j k : ℕ) → j < k → k < length kept → slice_index kept j < slice_index kept k
  pub only : All (λ w. IsWantedAt wanted variables w) kept
  pub all : (w : ℕ) (x : Variable) → w < v → slice_get variables w ≡ Some x → is_wanted wanted x.role ≡ true → Contains kept w

pub kept_none : (wanted : Wanted) (variables : List Variable) (kept : List ℕ) → kept ≡ [] → KeptTo wanted variables kept 0
kept_none wanted variables kept e =
    let n = ap length e in
    record {
      few = omega (arith, n);
      inside = subst (All (λ w. w < 0)) (sym e) (All-nil (λ w. w < 0));
      ascending = λ j k l lk. absurd (omega (arith, n, lk));
      only = subst (All (λ w. IsWantedAt wanted variables w)) (sym e) (All-nil (λ w. IsWantedAt wanted variables w));
      all = λ w x l. absurd (omega arith);
    }

wider : (v : ℕ) (kept : List ℕ) → All (λ w. w < v) kept → All (λ w. w < v + 1) kept
wider v kept h = All-weaker (λ w. w < v) (λ w. w < v + 1) (λ w l. omega arith) kept h

pub kept_skip : (wanted : Wanted) (variables : List Variable) (kept : List ℕ) (v : ℕ) (y : Variable) → slice_get variables v ≡ Some y → is_wanted wanted y.role ≡ false → KeptTo wanted variables kept v → KeptTo wanted variables kept (v + 1)
kept_skip wanted variables kept v y there not_wanted h =
    record {
      few = let f = h.few in omega arith;
      inside = wider v kept h.inside;
      ascending = h.ascending;
      only = h.only;
      all = λ w x l at yes. elim (cases_lt w v) [
        | inl low ↦ h.all w x low at yes
        | inr high ↦
            let e : v ≡ w = omega arith in
            let same : y ≡ x = same_Some y x (sym there ∙ ap (slice_get variables) e ∙ at) in
            let clash : false ≡ true = sym not_wanted ∙ ap (λ (z : Variable). is_wanted wanted z.role) same ∙ yes in absurd cc
      ];
    }

pub kept_more : (wanted : Wanted) (variables : List Variable) (kept : List ℕ) (v : ℕ) (y : Variable) → slice_get variables v ≡ Some y → is_wanted wanted y.role ≡ true → KeptTo wanted variables kept v → KeptTo wanted variables (kept ++ v ∷ []) (v + 1)
kept_more wanted variables kept v y there is h =
    let long = length_push kept v in
    let last : (k : ℕ) → k ≡ length kept → slice_index (kept ++ v ∷ []) k ≡ v = λ k e. get_or_push kept v 0 k (sym e) in
    let low : (k : ℕ) → k < length kept → slice_index (kept ++ v ∷ []) k ≡ slice_index kept k = λ k l. get_or_append_left kept (v ∷ []) 0 k l in
    let under : (k : ℕ) → k < length kept → slice_index kept k < v = λ k l. All-get_or (λ w. w < v) kept k 0 l h.inside in
    record {
      few = let f = h.few in omega (arith, long);
      inside = All-append (λ w. w < v + 1) kept (v ∷ []) (wider v kept h.inside) (All-cons (λ w. w < v + 1) v [] (omega arith) (All-nil (λ w. w < v + 1)));
      ascending = λ j k l lk. elim (cases_lt k (length kept)) [
        | inl b ↦
            let a : j < length kept = omega arith in
            let u = h.ascending j k l b in
            let f = low j a in
            let g = low k b in omega (arith, u, f, g)
        | inr b ↦
            let e : k ≡ length kept = omega (arith, long, lk) in
            let a : j < length kept = omega (arith, e, l) in
            let u = under j a in
            let f = low j a in
            let g = last k e in omega (arith, u, f, g)
      ];
      only = All-append (λ w. IsWantedAt wanted variables w) kept (v ∷ []) h.only
          (All-cons (λ w. IsWantedAt wanted variables w) v [] (record { variable = y; there = there; role = is }) (All-nil (λ w. IsWantedAt wanted variables w)));
      all = λ w x l at yes. elim (cases_lt w v) [
        | inl below ↦ Contains-append_left kept (v ∷ []) w (h.all w x below at yes)
        | inr above ↦ let e : v ≡ w = omega arith in subst (Contains (kept ++ v ∷ [])) e (Contains-push kept v)
      ];
    }

pub kept_done : (wanted : Wanted) (variables : List Variable) (kept : List ℕ) (v : ℕ) → v ≡ length variables → KeptTo wanted variables kept v → AreKept (length variables) kept
kept_done wanted variables kept v e h = record { inside = subst (λ (n : ℕ). All (λ w. w < n) kept) e h.inside; ascending = h.ascending }
