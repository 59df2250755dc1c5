-- Which datum of a flow's clean list a status is.
use Rattle.std.proofs.Common.{◌≡◌, ◌≢◌, ℕ, zero, suc, ◌+◌, ◌-◌, ◌<◌, ◌≤◌, inl, inr, Bool, true, false, List, [], ◌∷◌, drop, map, Option, Some, None, ℤ, refl, sym, ap, ◌∙◌, subst, arith, add-one}
use Rattle.std.specs.Prelude.{slice_get}
use Rattle.std.specs.List.{range_with_len}
use Rattle.std.proofs.lemmas.Bool.{cases_lt}
use Rattle.std.proofs.lemmas.List.{drop-drop}
use Rattle.lutree.specs.declared.program.Kind.{Kind}
use Rattle.luflow.specs.declared.data.Datum.{Datum}
use Rattle.luflow.specs.declared.data.Status.TheVariants.{Absent, Present}
use Rattle.luflow.specs.Streams.{Mark, Known, Broken, Ticks, newer, before, is_broken}
use Rattle.luflow.specs.Sound.{IsTidyMark}
use Rattle.luflow.specs.Messages.{marks, clean_list, once_if, presents}
use Rattle.lublock_kernels.specs.Blocks.{once_true, since, Holds, datum_at}

newer_back : (m : Mark) (o : Option Datum) (d : Datum) → newer m o ≡ Some d → (is_broken m ≡ false) × (e : Datum) × (o ≡ Some e)
newer_back Broken o d h = cc
newer_back (Known Absent) o d h = (refl, d, h)
newer_back (Known (Present x)) None d h = cc
newer_back (Known (Present x)) (Some last) d h = (refl, last, refl)

get_drop : {X : Type 0} (xs : List X) (k : ℕ) → slice_get xs k ≡ slice_get (drop k xs) 0
get_drop xs zero = refl
get_drop [] (suc k) = refl
get_drop (x ∷ xs) (suc k) = get_drop xs k

one_mark : (k : ℕ) (m : Mark) (rest : List Mark) (xs : List Datum) → is_broken m ≡ false → drop k xs ≡ clean_list (m ∷ rest) → drop (k + once_if m) xs ≡ clean_list rest
one_mark k Broken rest xs b h = cc
one_mark k (Known Absent) rest xs b h =
    let e : k + 0 ≡ k = omega arith in ap (λ n. drop n xs) e ∙ h
one_mark k (Known (Present d)) rest xs b h = sym (drop-drop 1 k xs) ∙ ap (drop 1) h

-- the data from the first one that isn't before t
clean_from : (s : ℕ → Mark) (n t : ℕ) (d : Datum) → t ≤ n → before s t ≡ Some d → drop (presents s t) (clean_list (marks s n)) ≡ clean_list (map s (range_with_len t (n - t)))
clean_from s n zero d l h = let e : n ≡ n - 0 = omega arith in ap (λ m. clean_list (map s (range_with_len 0 m))) e
clean_from s n (suc t) d l h =
    let b = newer_back (s t) (before s t) d h in
    let ih = clean_from s n t b.1 (omega arith) b.2 in
    let m : n - t ≡ suc (n - suc t) = omega arith in
    let ih' = ih ∙ ap (λ j. clean_list (map s (range_with_len t j))) m in
    one_mark (presents s t) (s t) (map s (range_with_len (t + 1) (n - suc t))) (clean_list (marks s n)) b.0 ih'
    ∙ ap (λ u. clean_list (map s (range_with_len u (n - suc t)))) (add-one t)

-- what the data from t on begin with
clean_front : (s : ℕ → Mark) (n t : ℕ) (d : Datum) → t < n → before s t ≡ Some d → slice_get (clean_list (marks s n)) (presents s t) ≡ slice_get (clean_list (s t ∷ map s (range_with_len (t + 1) (n - suc t)))) 0
clean_front s n t d l h =
    let m : n - t ≡ suc (n - suc t) = omega arith in
    get_drop (clean_list (marks s n)) (presents s t)
    ∙ ap (λ xs. slice_get xs 0) (clean_from s n t d (omega arith) h ∙ ap (λ j. clean_list (map s (range_with_len t j))) m)

-- the datum that a stream has at an instant is that of its clean list at as many places as it was present before
pub datum_at_present : (s : ℕ → Mark) (n t : ℕ) (d x : Datum) → t < n → before s t ≡ Some d → s t ≡ Known (Present x) → slice_get (clean_list (marks s n)) (presents s t) ≡ Some x
datum_at_present s n t d x l h e =
    clean_front s n t d l h ∙ ap (λ m. slice_get (clean_list (m ∷ map s (range_with_len (t + 1) (n - suc t)))) 0) e

no_datum_at_broken : (s : ℕ → Mark) (n t : ℕ) (d : Datum) → t < n → before s t ≡ Some d → s t ≡ Broken → slice_get (clean_list (marks s n)) (presents s t) ≡ None
no_datum_at_broken s n t d l h e =
    clean_front s n t d l h ∙ ap (λ m. slice_get (clean_list (m ∷ map s (range_with_len (t + 1) (n - suc t)))) 0) e

-- where its clock is true and the clean list has a datum for it, a stream has this datum
pub present_from : (k : Kind) (e : Bool) (w q : Option Bool) (s : ℕ → Mark) (n t : ℕ) (y d : Datum) → IsTidyMark k e w q (s t) → q ≡ Some true → t < n → before s t ≡ Some y → slice_get (clean_list (marks s n)) (presents s t) ≡ Some d → s t ≡ Known (Present d)
present_from k e w q s n t y d tidy on l before_is is = by (s t) refl where
  by : (m : Mark) → s t ≡ m → s t ≡ Known (Present d)
  by Broken h = let f : None ≡ Some d = sym (no_datum_at_broken s n t y l before_is h) ∙ is in absurd cc
  by (Known Absent) h =
      let off : q ≡ Some false = subst (IsTidyMark k e w q) h tidy in
      let f : Some true ≡ Some false = sym on ∙ off in absurd cc
  by (Known (Present x)) h =
      let f : Some x ≡ Some d = sym (datum_at_present s n t y x l before_is h) ∙ is in
      let g : x ≡ d = cc in
      h ∙ ap (λ z. Known (Present z)) g

once_same : (s : Kind) (e : Bool) (w q : Option Bool) (m : Mark) → IsTidyMark s e w q m → m ≢ Broken → once_if m ≡ once_true q
once_same s e w q Broken tidy sound = absurd (sound refl)
once_same s e w q (Known Absent) tidy sound = sym (ap once_true tidy)
once_same s e w q (Known (Present d)) tidy sound = sym (ap once_true tidy.0)

-- a stream was present once more where its clock was true
pub presents_step : (s : Kind) (e : Bool) (w q : Option Bool) (m : Mark) (p k c : ℕ) → IsTidyMark s e w q m → m ≢ Broken → p ≡ k + c → p + once_if m ≡ k + (c + once_true q)
presents_step s e w q m p k c tidy sound is = let same = once_same s e w q m tidy sound in omega (arith, same, is)

-- each tick of a clock is at an instant
pub record IsTick (k : Ticks) (t len m : ℕ) : Type 0 where
  pub instant : ℕ
  pub inside : instant < len
  pub on : k (t + instant) ≡ Some true
  pub count : since k t instant ≡ m

later_tick : (k : Ticks) (t n m : ℕ) → IsTick k t n m → IsTick k t (suc n) m
later_tick k t n m f = record { instant = f.instant; inside = let g = f.inside in omega (arith, g); on = f.on; count = f.count }

tick_by : (k : Ticks) (t n m : ℕ) → m < since k t (suc n) → (m < since k t n → IsTick k t n m) → (q : Option Bool) → k (t + n) ≡ q → IsTick k t (suc n) m
tick_by k t n m l before None h = let z : once_true (k (t + n)) ≡ 0 = ap once_true h in later_tick k t n m (before (omega (arith, z, l)))
tick_by k t n m l before (Some false) h = let z : once_true (k (t + n)) ≡ 0 = ap once_true h in later_tick k t n m (before (omega (arith, z, l)))
tick_by k t n m l before (Some true) h = let z : once_true (k (t + n)) ≡ 1 = ap once_true h in elim (cases_lt m (since k t n)) [
  | inl lm ↦ later_tick k t n m (before lm)
  | inr le ↦ record { instant = n; inside = omega arith; on = h; count = omega (arith, z, l, le) }
]

pub tick_at : (k : Ticks) (t len m : ℕ) → m < since k t len → IsTick k t len m
tick_at k t zero m l = absurd (omega arith)
tick_at k t (suc n) m l = tick_by k t n m l (tick_at k t n m) (k (t + n)) refl

-- a datum is nil only where its flow may be nil, and its clock was never true before
pub exact_unless : (s : Kind) (e : Bool) (w q : Option Bool) (m : Mark) (d : Datum) (z : ℤ) → IsTidyMark s e w q m → m ≡ Known (Present d) → Holds s z d → e ≡ false → d ≡ datum_at s z
exact_unless s e w q m d z tidy is holds none =
    let g : IsTidyMark s e w q (Known (Present d)) = subst (IsTidyMark s e w q) is tidy in
    holds (λ nil. let one : e ≡ true = (g.2 nil).0 in let clash : false ≡ true = sym none ∙ one in cc)

pub exact_later : (s : Kind) (e : Bool) (w q : Option Bool) (m : Mark) (d : Datum) (z : ℤ) → IsTidyMark s e w q m → m ≡ Known (Present d) → Holds s z d → w ≡ Some true → d ≡ datum_at s z
exact_later s e w q m d z tidy is holds was =
    let g : IsTidyMark s e w q (Known (Present d)) = subst (IsTidyMark s e w q) is tidy in
    holds (λ nil. let one : w ≡ Some false = (g.2 nil).1 in let clash : Some true ≡ Some false = sym was ∙ one in absurd cc)
