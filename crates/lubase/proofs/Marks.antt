-- Marks after one more.
use Rattle.std.proofs.Common.{◌≡◌, ◌≢◌, ◌<◌, ◌≤◌, ◌⊎◌, inl, inr, ℕ, zero, suc, List, [], ◌∷◌, Bool, true, false, not, IsTrue, length, get_or, set, refl, sym, ◌∙◌, subst, true≢false, cond, ap, arith, eqb, ltb, get_or-set_same, get_or-set_other}
use Rattle.std.specs.List.{count_by}
use Rattle.std.proofs.lemmas.Bool.Decides.{Decides-eqb, Decides-ltb}
use Rattle.std.proofs.lemmas.List.Sums.{sum_by-set}
use Rattle.lubase.specs.Search.{Has, Lacks}

pub same_or_not : (u v : ℕ) → (u ≡ v) ⊎ (u ≢ v)
same_or_not u v = by_test (eqb u v) (λ e. (Decides-eqb u v).0 e) (λ e. (Decides-eqb u v).1 e) where
  by_test : (b : Bool) → (b ≡ true → u ≡ v) → (u ≡ v → b ≡ true) → (u ≡ v) ⊎ (u ≢ v)
  by_test true f g = inl (f refl)
  by_test false f g = inr (λ e. true≢false (sym (g e)))

pub below_or_not : (u v : ℕ) → (u < v) ⊎ (v ≤ u)
below_or_not u v = by_test (ltb u v) (λ e. (Decides-ltb u v).0 e) (λ e. (Decides-ltb u v).1 e) where
  by_test : (b : Bool) → (b ≡ true → u < v) → (u < v → b ≡ true) → (u < v) ⊎ (v ≤ u)
  by_test true f g = inl (f refl)
  by_test false f g = inr (not_less (λ lt. true≢false (sym (g lt)))) where
    not_less : ((u < v) → ⊥) → v ≤ u
    not_less h = omega (arith, h)

pub has_or_lacks : (marks : List Bool) (v : ℕ) → Has marks v ⊎ Lacks marks v
has_or_lacks marks v = by_value (get_or marks v false) where
  by_value : (b : Bool) → IsTrue b ⊎ (b ≡ false)
  by_value true = inl refl
  by_value false = inr refl

pub has_not_lacks : (marks : List Bool) (v : ℕ) → Has marks v → Lacks marks v → ⊥
has_not_lacks marks v has lacks = true≢false (sym has ∙ lacks)

pub has_same : (marks : List Bool) (v : ℕ) → v < length marks → Has (set marks v true) v
has_same marks v lt = get_or-set_same marks v true false lt

pub has_kept : (marks : List Bool) (v u : ℕ) → v < length marks → Has marks u → Has (set marks v true) u
has_kept marks v u lt has =
    elim (same_or_not u v) [
      | inl e ↦ subst (Has (set marks v true)) (sym e) (has_same marks v lt)
      | inr ne ↦ get_or-set_other marks v u true false ne ∙ has
    ]

pub has_cases : (marks : List Bool) (v u : ℕ) → Has (set marks v true) u → (u ≡ v) ⊎ Has marks u
has_cases marks v u has = elim (same_or_not u v) [ inl e ↦ inl e | inr ne ↦ inr (sym (get_or-set_other marks v u true false ne) ∙ has) ]

pub lacks_other : (marks : List Bool) (v u : ℕ) → u ≢ v → Lacks marks u → Lacks (set marks v true) u
lacks_other marks v u ne lacks = get_or-set_other marks v u true false ne ∙ lacks

pub lacks_cases : (marks : List Bool) (v u : ℕ) → v < length marks → Lacks (set marks v true) u → (u ≢ v) × Lacks marks u
lacks_cases marks v u lt lacks =
    let ne : u ≢ v = λ e. has_not_lacks (set marks v true) u (subst (Has (set marks v true)) (sym e) (has_same marks v lt)) lacks in
    (ne, sym (get_or-set_other marks v u true false ne) ∙ lacks)

pub fewer_lack : (marks : List Bool) (v : ℕ) → v < length marks → Lacks marks v → count_by not (set marks v true) < count_by not marks
fewer_lack marks v lt lacks =
    let weight : Bool → ℕ = λ b. cond (not b) 1 0 in
    omega (arith, sum_by-set weight marks v true false lt, ap weight lacks)

pub has_inside : (marks : List Bool) (v : ℕ) → Has marks v → v < length marks
has_inside [] v has = absurd (true≢false (sym has))
has_inside (b ∷ marks) zero has = omega arith
has_inside (b ∷ marks) (suc v) has = omega (arith, has_inside marks v has)
