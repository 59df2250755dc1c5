-- Ticks counted in a row, and what is written where they are counted.
use Rattle.std.proofs.Common.{◌≡◌, ℕ, zero, suc, ◌+◌, ◌<◌, ◌≤◌, inl, inr, Bool, true, false, List, length, ℤ, refl, sym, subst, ◌∙◌, ap, arith}
use Rattle.std.proofs.lemmas.Bool.{cases_lt, cases_eq}
use Rattle.luflow.specs.declared.data.Datum.{Datum}
use Rattle.lutree.specs.declared.program.Kind.{Kind}
use Rattle.luflow.specs.Streams.{is_value}
use Rattle.lublock_kernels.specs.Words.{datum_at, once}
use Rattle.lublock_kernels.specs.Rows.{Keeps, IsPut, IsGathered, IsHeld, IsSpread, StaysElsewhere, hits_in, word_in}
use Rattle.lublock_kernels.proofs.Filling.{kept_put}

-- whether a row has a value at a tick
abbrev pub hit : List ℤ → Kind → Datum → ℕ → Bool
hit c u d n = is_value d (datum_at u (word_in c (suc n)))

pub hits_more : (c : List ℤ) (u : Kind) (d : Datum) (m hits more : ℕ) → hits ≡ hits_in c u d m → more ≡ once (hit c u d m) → hits + more ≡ hits_in c u d (m + 1)
hits_more c u d m hits more is one =
    let e : suc m ≡ m + 1 = omega arith in
    let all : hits + more ≡ hits_in c u d (suc m) = omega (arith, is, one) in
    all ∙ ap (hits_in c u d) e

hits_up : (c : List ℤ) (u : Kind) (d : Datum) (n m : ℕ) → n ≤ m → hits_in c u d n ≤ hits_in c u d m
hits_up c u d n zero l = let e : n ≡ 0 = omega arith in subst (λ (k : ℕ). hits_in c u d k ≤ hits_in c u d 0) (sym e) (omega arith)
hits_up c u d n (suc m) l = elim (cases_lt n (suc m)) [
  | inl h ↦ let below = hits_up c u d n m (omega arith) in omega (arith, below)
  | inr h ↦ let e : n ≡ suc m = omega arith in subst (λ (k : ℕ). hits_in c u d k ≤ hits_in c u d (suc m)) (sym e) (omega arith)
]

hits_apart : (c : List ℤ) (u : Kind) (d : Datum) (n m : ℕ) → n < m → hit c u d n ≡ true → hits_in c u d n < hits_in c u d m
hits_apart c u d n m l on =
    let grows = hits_up c u d (suc n) m (omega arith) in
    let one : once (hit c u d n) ≡ 1 = ap once on in
    omega (arith, grows, one)

pub gathered_more : (u : Kind) (d : Datum) (m hits : ℕ) (c a row new : List ℤ) → hits ≡ hits_in c u d m → IsGathered u d m c a row → IsPut row hits (word_in a (suc m)) new → IsGathered u d (m + 1) c a new
gathered_more u d m hits c a row new is gathered put k l on = elim (cases_lt k m) [
  | inl h ↦ let apart = hits_apart c u d k m h on in put.others (suc (hits_in c u d k)) (λ e. absurd (omega (arith, e, apart, is))) ∙ gathered k h on
  | inr h ↦
      let e : k ≡ m = omega arith in
      let same : suc (hits_in c u d k) ≡ suc hits = ap (λ (j : ℕ). suc (hits_in c u d j)) e ∙ ap suc (sym is) in
      ap (word_in new) same ∙ put.word ∙ ap (λ (j : ℕ). word_in a (suc j)) (sym e)
]

pub held_more : (u : Kind) (d : Datum) (m hits limit : ℕ) (c a row new : List ℤ) → hits ≡ hits_in c u d (m + 1) → hits ≤ limit → IsHeld u d m limit c a row → IsPut row m (word_in a hits) new → IsHeld u d (m + 1) limit c a new
held_more u d m hits limit c a row new is few held put k l = elim (cases_lt k m) [
  | inl h ↦ (put.others (suc k) (λ e. absurd (omega (arith, e, h))) ∙ (held k h).0, (held k h).1)
  | inr h ↦
      let e : k ≡ m = omega arith in
      let f : m + 1 ≡ suc k = omega arith in
      let same : hits ≡ hits_in c u d (suc k) = is ∙ ap (hits_in c u d) f in
      (ap (λ (j : ℕ). word_in new (suc j)) e ∙ put.word ∙ ap (word_in a) same, omega (arith, same))
]

pub spread_more : (u : Kind) (d : Datum) (m hits limit : ℕ) (c x row new : List ℤ) → hits ≡ hits_in c u d m → hits < limit → IsSpread u d m limit c x row → IsPut row m (word_in x (suc hits)) new → IsSpread u d (m + 1) limit c x new
spread_more u d m hits limit c x row new is few done put k l on = elim (cases_lt k m) [
  | inl h ↦ let f = done k h on in (put.others (suc k) (λ e. absurd (omega (arith, e, h))) ∙ f.0, f.1)
  | inr h ↦
      let e : k ≡ m = omega arith in
      let same : hits ≡ hits_in c u d k = is ∙ ap (hits_in c u d) (sym e) in
      (ap (λ (j : ℕ). word_in new (suc j)) e ∙ put.word ∙ ap (λ (j : ℕ). word_in x (suc j)) same, omega (arith, same))
]

pub spread_skip : (u : Kind) (d : Datum) (m limit : ℕ) (c x row : List ℤ) → hit c u d m ≡ false → IsSpread u d m limit c x row → IsSpread u d (m + 1) limit c x row
spread_skip u d m limit c x row off done k l on = elim (cases_lt k m) [
  | inl h ↦ done k h on
  | inr h ↦ let e : k ≡ m = omega arith in let f : true ≡ false = sym on ∙ ap (hit c u d) e ∙ off in absurd cc
]

pub stays_more : (u : Kind) (d : Datum) (to m : ℕ) (c old row new : List ℤ) (z : ℤ) → hit c u d m ≡ true → StaysElsewhere u d to c old row → IsPut row m z new → StaysElsewhere u d to c old new
stays_more u d to m c old row new z on stays put n l off =
    put.others (suc n) (λ e. let g : n ≡ m = omega (arith, e) in let f : true ≡ false = sym on ∙ ap (hit c u d) (sym g) ∙ off in cc) ∙ stays n l off

pub once_few : (b : Bool) → once b ≤ 1
once_few true = omega arith
once_few false = omega arith

-- where the loop that spreads a row's words stands
pub record Spreading (u : Kind) (d : Datum) (m limit to hits : ℕ) (c x old row : List ℤ) : Type 0 where
  pub count : hits ≡ hits_in c u d m
  pub few : hits ≤ m
  pub len : length row ≡ length old
  pub kept : Keeps 0 old row
  pub words : IsSpread u d m limit c x row
  pub stays : StaysElsewhere u d to c old row

pub spreading_hit : (u : Kind) (d : Datum) (m limit to hits : ℕ) (c x old row new : List ℤ) → Spreading u d m limit to hits c x old row → hit c u d m ≡ true → hits < limit → length new ≡ length row → IsPut row m (word_in x (hits + 1)) new → Spreading u d (m + 1) limit to (hits + 1) c x old new
spreading_hit u d m limit to hits c x old row new is on few len put =
    let e : hits + 1 ≡ suc hits = omega arith in
    let put' : IsPut row m (word_in x (suc hits)) new = subst (λ (n : ℕ). IsPut row m (word_in x n) new) e put in
    record {
      count = hits_more c u d m hits 1 is.count (sym (ap once on));
      few = let f = is.few in omega (arith, f);
      len = len ∙ is.len;
      kept = kept_put 0 m old row new (word_in x (suc hits)) (omega arith) is.kept put';
      words = spread_more u d m hits limit c x row new is.count few is.words put';
      stays = stays_more u d to m c old row new (word_in x (suc hits)) on is.stays put';
    }

-- the same words again
same_words : (m : ℕ) (row new : List ℤ) → IsPut row m (word_in row (suc m)) new → (n : ℕ) → word_in new n ≡ word_in row n
same_words m row new put n = elim (cases_eq n (suc m)) [
  | inl e ↦ ap (word_in new) e ∙ put.word ∙ ap (word_in row) (sym e)
  | inr e ↦ put.others n e
]

pub spreading_skip : (u : Kind) (d : Datum) (m limit to hits : ℕ) (c x old row new : List ℤ) → Spreading u d m limit to hits c x old row → hit c u d m ≡ false → length new ≡ length row → IsPut row m (word_in row (suc m)) new → Spreading u d (m + 1) limit to hits c x old new
spreading_skip u d m limit to hits c x old row new is off len put =
    let e : hits + 0 ≡ hits = omega arith in
    let same = same_words m row new put in
    record {
      count = sym e ∙ hits_more c u d m hits 0 is.count (sym (ap once off));
      few = let f = is.few in omega (arith, f);
      len = len ∙ is.len;
      kept = λ n l. same n ∙ is.kept n l;
      words = λ n l on. let done = spread_skip u d m limit c x row off is.words n l on in (same (suc n) ∙ done.0, done.1);
      stays = λ n l beside. same (suc n) ∙ is.stays n l beside;
    }

pub spreading_more : (u : Kind) (d : Datum) (m limit to hits : ℕ) (c x old row new : List ℤ) (b : Bool) → Spreading u d m limit to hits c x old row → hit c u d m ≡ b → hits + once b ≤ limit → length new ≡ length row → (b ≡ true → IsPut row m (word_in x (hits + once b)) new) → (b ≡ false → IsPut row m (word_in row (suc m)) new) → Spreading u d (m + 1) limit to (hits + once b) c x old new
spreading_more u d m limit to hits c x old row new true is on few len put beside =
    spreading_hit u d m limit to hits c x old row new is on (omega (arith, few)) len (put refl)
spreading_more u d m limit to hits c x old row new false is off few len put beside =
    let e : hits + 0 ≡ hits = omega arith in
    subst (λ (k : ℕ). Spreading u d (m + 1) limit to k c x old new) (sym e) (spreading_skip u d m limit to hits c x old row new is off len (beside refl))
