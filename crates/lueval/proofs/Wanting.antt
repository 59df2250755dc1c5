-- The numbers of the flows that are wanted, one flow after the other.
use Rattle.std.proofs.Common.{◌≡◌, ℕ, ◌+◌, ◌<◌, inl, inr, Bool, true, List, [], ◌∷◌, ◌++◌, length, Some, subst, sym, ap, ◌∙◌, arith}
use Rattle.std.specs.Prelude.{All, Contains, slice_get, slice_index}
use Rattle.std.proofs.lemmas.Bool.{cases_lt}
use Rattle.std.proofs.lemmas.List.{length_push, get_or_push, get_or_append_left}
use Rattle.std.proofs.lemmas.List.Elements.{All-nil, All-cons, All-append, All-weaker, All-get_or, Contains-append_left, Contains-push}
use Rattle.lueval_lines.specs.Columns.{AreKept}

-- of the flows below v, those that are wanted are kept, in order
pub record WantedTo (wanted : List Bool) (kept : List ℕ) (v : ℕ) : Type 0 where
  pub inside : All (λ w. w < v) kept
  pub ascending : (j k : ℕ) → j < k → k < length kept → slice_index kept j < slice_index kept k
  pub all : (w : ℕ) → w < v → slice_get wanted w ≡ Some true → Contains kept w

pub wanted_none : (wanted : List Bool) (kept : List ℕ) → kept ≡ [] → WantedTo wanted kept 0
wanted_none wanted kept e =
    let n = ap length e in
    record {
      inside = subst (All (λ w. w < 0)) (sym e) (All-nil (λ w. w < 0));
      ascending = λ j k l lk. absurd (omega (arith, n, lk));
      all = λ w l. absurd (omega arith);
    }

wider : (v : ℕ) (kept : List ℕ) → All (λ w. w < v) kept → All (λ w. w < v + 1) kept
wider v kept h = All-weaker (λ w. w < v) (λ w. w < v + 1) (λ w l. omega arith) kept h

pub wanted_skip : (wanted : List Bool) (kept : List ℕ) (v : ℕ) → (slice_get wanted v ≡ Some true → ⊥) → WantedTo wanted kept v → WantedTo wanted kept (v + 1)
wanted_skip wanted kept v not_wanted h =
    record {
      inside = wider v kept h.inside;
      ascending = h.ascending;
      all = λ w l yes. elim (cases_lt w v) [
        | inl low ↦ h.all w low yes
        | inr high ↦ let e : w ≡ v = omega arith in absurd (not_wanted (ap (slice_get wanted) (sym e) ∙ yes))
      ];
    }

pub wanted_more : (wanted : List Bool) (kept : List ℕ) (v : ℕ) → WantedTo wanted kept v → WantedTo wanted (kept ++ v ∷ []) (v + 1)
wanted_more wanted kept v h =
    let long = length_push kept v in
    let last : (k : ℕ) → k ≡ length kept → slice_index (kept ++ v ∷ []) k ≡ v = λ k e. get_or_push kept v 0 k (sym e) in
    let low : (k : ℕ) → k < length kept → slice_index (kept ++ v ∷ []) k ≡ slice_index kept k = λ k l. get_or_append_left kept (v ∷ []) 0 k l in
    let under : (k : ℕ) → k < length kept → slice_index kept k < v = λ k l. All-get_or (λ w. w < v) kept k 0 l h.inside in
    record {
      inside = All-append (λ w. w < v + 1) kept (v ∷ []) (wider v kept h.inside) (All-cons (λ w. w < v + 1) v [] (omega arith) (All-nil (λ w. w < v + 1)));
      ascending = λ j k l lk. elim (cases_lt k (length kept)) [
        | inl b ↦
            let a : j < length kept = omega arith in
            let u = h.ascending j k l b in
            let f = low j a in
            let g = low k b in omega (arith, u, f, g)
        | inr b ↦
            let e : k ≡ length kept = omega (arith, long, lk) in
            let a : j < length kept = omega (arith, e, l) in
            let u = under j a in
            let f = low j a in
            let g = last k e in omega (arith, u, f, g)
      ];
      all = λ w l yes. elim (cases_lt w v) [
        | inl below ↦ Contains-append_left kept (v ∷ []) w (h.all w below yes)
        | inr above ↦ let e : v ≡ w = omega arith in subst (Contains (kept ++ v ∷ [])) e (Contains-push kept v)
      ];
    }

pub wanted_done : (wanted : List Bool) (kept : List ℕ) (count v : ℕ) → v ≡ count → WantedTo wanted kept v → AreKept count kept
wanted_done wanted kept count v e h = record { inside = subst (λ (n : ℕ). All (λ w. w < n) kept) e h.inside; ascending = h.ascending }
