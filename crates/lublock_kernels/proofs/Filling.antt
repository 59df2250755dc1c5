-- Rows that are filled word by word.
use Rattle.std.proofs.Common.{◌≡◌, ◌≢◌, ℕ, zero, suc, ◌+◌, ◌<◌, ◌≤◌, inl, inr, Bool, false, List, [], ◌∷◌, length, set, ℤ, refl, sym, subst, ◌∙◌, ap, arith}
use Rattle.std.proofs.lemmas.Bool.{cases_lt}
use Rattle.lublock_kernels.specs.Rows.{IsFilled, IsPut, Keeps, word_in}

word_other : (row : List ℤ) (i r : ℕ) (z : ℤ) → r ≢ i → word_in (set row i z) r ≡ word_in row r
word_other [] i r z ne = refl
word_other (y ∷ row) zero zero z ne = absurd (ne refl)
word_other (y ∷ row) zero (suc r) z ne = refl
word_other (y ∷ row) (suc i) zero z ne = refl
word_other (y ∷ row) (suc i) (suc r) z ne = word_other row i r z (λ e. ne (ap suc e))

word_same : (row : List ℤ) (i : ℕ) (z : ℤ) → i < length row → word_in (set row i z) i ≡ z
word_same [] i z l = absurd (omega arith)
word_same (y ∷ row) zero z l = refl
word_same (y ∷ row) (suc i) z l = word_same row i z (omega arith)

-- one word more
pub filled_more : (R : ℕ → ℤ × Bool → Type 0) (row : List ℤ) (from m : ℕ) (z : ℤ) → m + 1 < length row → IsFilled R from m row → R m (z, false) → IsFilled R from (m + 1) (set row (m + 1) z)
filled_more R row from m z l filled now k lf lk = elim (cases_lt k m) [
  | inl h ↦ subst (λ (w : ℤ). R k (w, false)) (sym (word_other row (m + 1) (suc k) z (λ e. absurd (omega (arith, e, h))))) (filled k lf h)
  | inr h ↦
      let e : k ≡ m = omega arith in
      let i : suc k ≡ m + 1 = omega arith in
      subst (λ (w : ℤ). R k (w, false)) (sym (ap (word_in (set row (m + 1) z)) i ∙ word_same row (m + 1) z l)) (subst (λ (j : ℕ). R j (z, false)) (sym e) now)
]

pub keeps_more : (old row : List ℤ) (from m : ℕ) (z : ℤ) → from ≤ m → Keeps from old row → Keeps from old (set row (m + 1) z)
keeps_more old row from m z l keeps n le = word_other row (m + 1) n z (λ e. absurd (omega (arith, e, le, l))) ∙ keeps n le

pub is_put : (row : List ℤ) (tick : ℕ) (z : ℤ) → tick + 1 < length row → IsPut row tick z (set row (tick + 1) z)
is_put row tick z l =
    let i : suc tick ≡ tick + 1 = omega arith in
    record {
      word = ap (word_in (set row (tick + 1) z)) i ∙ word_same row (tick + 1) z l;
      others = λ n ne. word_other row (tick + 1) n z (λ e. ne (e ∙ sym i));
    }

pub kept_put : (from tick : ℕ) (old row new : List ℤ) (z : ℤ) → from ≤ tick → Keeps from old row → IsPut row tick z new → Keeps from old new
kept_put from tick old row new z l keeps is n le = is.others n (λ e. absurd (omega (arith, e, le, l))) ∙ keeps n le
