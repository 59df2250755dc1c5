-- What is kept of the flows made new, one after the other.
use Rattle.std.proofs.Common.{◌≡◌, ◌≢◌, ℕ, zero, suc, [], ◌∷◌, ◌+◌, ◌<◌, ◌≤◌, inl, inr, Bool, true, false, cond, List, length, set, Some, refl, sym, ap, ap₂, ◌∙◌, arith}
use Rattle.std.specs.Prelude.{slice_get, slice_index, All}
use Rattle.std.proofs.lemmas.List.Elements.{All-weaker}
use Rattle.std.proofs.lemmas.Bool.{cases_lt, cases_eq, false≢true}
use Rattle.std.proofs.lemmas.List.{length-set}
use Rattle.std.proofs.lemmas.Option.{same_Some, slice_get_within}
use Rattle.lueval_lines.specs.declared.cell.Cell.{Cell}
use Rattle.lueval_lines.specs.declared.cell.Cell.TheVariants.{Absent, Nil, Truth, Number, Name}
use Rattle.lueval_lines.specs.Cells.{is_absent, newest}
use Rattle.lusite.specs.Machine.{more_of}
use Rattle.lusite_program.proofs.Written.{slice_get-set_same, slice_get-set_other}
use Rattle.lusite_program.proofs.Spread.{all_get}

-- the first n of those that are kept are what this makes of what is shown and of what they were, and all others are as they were
pub record AreRenewed (Y : Type 0) (next : Cell → Y → Y) (kept : List ℕ) (shown : List Cell) (before now : List Y) (n : ℕ) : Type 0 where
  pub len : length now ≡ length before
  pub done : (j : ℕ) (x : Cell) (y : Y) → j < n → slice_get shown (slice_index kept j) ≡ Some x → slice_get before (slice_index kept j) ≡ Some y → slice_get now (slice_index kept j) ≡ Some (next x y)
  pub left : (k : ℕ) → ((j : ℕ) → j < n → k ≢ slice_index kept j) → slice_get now k ≡ slice_get before k

pub renewed_none : (Y : Type 0) (next : Cell → Y → Y) (kept : List ℕ) (shown : List Cell) (before : List Y) → AreRenewed Y next kept shown before before 0
renewed_none Y next kept shown before = record { len = refl; done = λ j x y l. absurd (omega (arith, l)); left = λ j no. refl }

module _ (Y : Type 0) (next : Cell → Y → Y) (kept : List ℕ) (rising : (j k : ℕ) → j < k → k < length kept → slice_index kept j < slice_index kept k) (shown : List Cell) (before now : List Y) (n : ℕ) (ln : n < length kept) (so_far : AreRenewed Y next kept shown before now n) where
  apart : (j : ℕ) → j < n → slice_index kept n ≢ slice_index kept j
  apart j l e = let h = rising j n l ln in absurd (omega (arith, h, e))

  abbrev k : ℕ
  k = slice_index kept n

  pub renewed_here : slice_get now (slice_index kept n) ≡ slice_get before (slice_index kept n)
  renewed_here = so_far.left (slice_index kept n) apart

  pub renewed_more : (x : Cell) (y : Y) → slice_get shown (slice_index kept n) ≡ Some x → slice_get now (slice_index kept n) ≡ Some y → AreRenewed Y next kept shown before (set now (slice_index kept n) (next x y)) (n + 1)
  renewed_more x y shows has = record {
    len = length-set now k (next x y) ∙ so_far.len;
    done = λ j u v l eu ev. elim (cases_eq j n) [
      | inl e ↦
          let same : slice_index kept j ≡ k = ap (slice_index kept) e in
          let eu' : slice_get shown k ≡ Some u = ap (slice_get shown) (sym same) ∙ eu in
          let ev' : slice_get now k ≡ Some v = renewed_here ∙ ap (slice_get before) (sym same) ∙ ev in
          ap (slice_get (set now k (next x y))) same ∙ slice_get-set_same now k (next x y) (slice_get_within now k y has)
          ∙ ap₂ (λ a b. Some (next a b)) (same_Some x u (sym shows ∙ eu')) (same_Some y v (sym has ∙ ev'))
      | inr ne ↦ slice_get-set_other now k (slice_index kept j) (next x y) (λ e. apart j (below j l ne) (sym e)) ∙ so_far.done j u v (below j l ne) eu ev
    ];
    left = λ i no. slice_get-set_other now k i (next x y) (no n (omega arith)) ∙ so_far.left i (λ j l. no j (omega (arith, l)));
  }
    where
      below : (j : ℕ) → j < n + 1 → j ≢ n → j < n
      below j l ne = elim (cases_lt j n) [
        | inl h ↦ h
        | inr h ↦ absurd (ne (omega (arith, l, h)))
      ]

pub set_same : {X : Type 0} (xs : List X) (i : ℕ) (x : X) → slice_get xs i ≡ Some x → xs ≡ set xs i x
set_same [] i x e = refl
set_same (y ∷ xs) zero x e = ap (λ z. z ∷ xs) (same_Some y x e)
set_same (y ∷ xs) (suc i) x e = ap (λ zs. y ∷ zs) (set_same xs i x e)

-- an absent cell changes nothing, and another is the last value
pub newest_absent : (x y : Cell) → is_absent x ≡ true → y ≡ newest x y
newest_absent Absent y e = refl
newest_absent Nil y e = absurd (false≢true e)
newest_absent (Truth b) y e = absurd (false≢true e)
newest_absent (Number n) y e = absurd (false≢true e)
newest_absent (Name k) y e = absurd (false≢true e)

pub newest_present : (x y : Cell) → is_absent x ≡ false → x ≡ newest x y
newest_present Absent y e = absurd (false≢true (sym e))
newest_present Nil y e = refl
newest_present (Truth b) y e = refl
newest_present (Number n) y e = refl
newest_present (Name k) y e = refl

-- a count is at most the number of instants before, and one more a later instant
pub more_low : (x : Cell) (n t : ℕ) → n ≤ t → more_of x n ≤ t + 1
more_low x n t l = go (is_absent x)
  where
    go : (b : Bool) → cond b n (n + 1) ≤ t + 1
    go true = omega (arith, l)
    go false = omega (arith, l)

pub low_there : (t : ℕ) (counts : List ℕ) (k n : ℕ) → All (λ m. m ≤ t) counts → slice_get counts k ≡ Some n → n ≤ t
low_there t counts k n few has = all_get (λ m. m ≤ t) counts k n few has

pub all_later : (t : ℕ) (counts : List ℕ) → All (λ m. m ≤ t) counts → All (λ m. m ≤ t + 1) counts
all_later t counts h = All-weaker (λ m. m ≤ t) (λ m. m ≤ t + 1) (λ m l. omega (arith, l)) counts h
