-- The values at which a clock may be true.
use Rattle.std.proofs.Common.{◌≡◌, ◌≢◌, ℕ, zero, suc, ◌+◌, ◌<◌, Bool, true, false, List, [], ◌∷◌, map, Some, None, nat_eq, refl, sym, ap, ◌∙◌, subst, zero-add, arith}
use Rattle.std.specs.Prelude.{Contains, slice_get}
use Rattle.std.specs.List.{range_with_len}
use Rattle.std.proofs.lemmas.Bool.{eq-eqb}
use Rattle.std.proofs.lemmas.List.FromFn.{length-map-range_with_len}
use Rattle.std.proofs.lemmas.List.Elements.{All-contains, All-from_recursion}
use Rattle.std.proofs.lemmas.Option.{slice_get_within, slice_get-get_or, get_or_from_slice_get, same_Some}
use Rattle.lutree.specs.declared.program.Kind.{Kind}
use Rattle.lutree.specs.declared.program.Kind.TheVariants.{Int as Ints, Bool as Truths, Enum}
use Rattle.luflow.specs.declared.data.Datum.{Datum}
use Rattle.luflow.specs.declared.data.Datum.TheVariants.{Int, Bool as Truth, Name, Nil}
use Rattle.luflow.specs.declared.data.Status.TheVariants.{Present}
use Rattle.luflow.specs.declared.form.Clock.TheVariants.{On}
use Rattle.luflow.specs.Program.{FlatView}
use Rattle.luflow.specs.Streams.{Known, is_value, truth_in}
use Rattle.luflow.specs.Values.{branch_of}
use Rattle.luflow.specs.Sound.{clock_values, IsOf, IsOn, BranchesFit}
use Rattle.luflow.specs.FlatLaws.{SplitLaw}

-- each truth value is one
pub truth_pattern : (b : Bool) → Contains (clock_values Truths) (Truth b)
truth_pattern true = (0, omega arith, refl)
truth_pattern false = (1, omega arith, refl)

-- the names of a range, by place
pub name_at : (a n j : ℕ) (d : Datum) → slice_get (map Name (range_with_len a n)) j ≡ Some d → (j < n) × (d ≡ Name (a + j))
name_at a zero j d at = let no : None ≡ Some d = at in absurd cc
name_at a (suc n) zero d at = let z : a ≡ a + 0 = omega arith in (omega arith, sym (same_Some (Name a) d at) ∙ ap Name z)
name_at a (suc n) (suc j) d at =
    let w = name_at (a + 1) n j d at in
    let l = w.0 in
    let z : (a + 1) + j ≡ a + suc j = omega arith in (omega (arith, l), w.1 ∙ ap Name z)

name_there : (a n j : ℕ) → j < n → slice_get (map Name (range_with_len a n)) j ≡ Some (Name (a + j))
name_there a zero j l = absurd (omega (arith, l))
name_there a (suc n) zero l = let z : a ≡ a + 0 = omega arith in ap (λ k. Some (Name k)) z
name_there a (suc n) (suc j) l = let z : (a + 1) + j ≡ a + suc j = omega arith in name_there (a + 1) n j (omega (arith, l)) ∙ ap (λ k. Some (Name k)) z

-- a value of a type has a place among its values
pub placed : (u : Kind) (d : Datum) (h : Contains (clock_values u) d) → slice_get (clock_values u) h.0 ≡ Some d
placed u d h = slice_get-get_or (clock_values u) h.0 d h.1 ∙ ap (λ (x : Datum). Some x) h.2

-- each name below their number is one
pub name_pattern : (p n k : ℕ) → k < n → Contains (clock_values (Enum p n)) (Name k)
name_pattern p n k l =
    let at = name_there 0 n k l ∙ ap (λ j. Some (Name j)) (zero-add k) in
    (k, slice_get_within (clock_values (Enum p n)) k (Name k) at, get_or_from_slice_get (clock_values (Enum p n)) k (Name k) (Name k) at)

-- such a value is itself
pub value_self : (u : Kind) (d : Datum) → Contains (clock_values u) d → is_value d d ≡ true
value_self Ints d h = let l = h.1 in absurd (omega arith)
value_self Truths d h =
    All-contains (λ d. is_value d d ≡ true) (clock_values Truths) d
    (All-from_recursion (λ d. is_value d d ≡ true) (clock_values Truths) (refl, (refl, tt))) h
value_self (Enum p n) d h =
    let w = name_at 0 n h.0 d (placed (Enum p n) d h) in
    subst (λ (d : Datum). is_value d d ≡ true) (sym w.1) (eq-eqb (0 + h.0) (0 + h.0) refl)

-- a value of a type that clocks may have has a branch of its own
pub branch_there : (u : Kind) (d : Datum) → clock_values u ≢ [] → IsOf u d → d ≢ Nil → (b : ℕ) × (branch_of d ≡ Some b) × (slice_get (clock_values u) b ≡ Some d)
branch_there Ints d some is sure = absurd (some refl)
branch_there Truths Nil some is sure = absurd (sure refl)
branch_there Truths (Int n) some is sure = absurd is
branch_there Truths (Name k) some is sure = absurd is
branch_there Truths (Truth true) some is sure = (0, refl, refl)
branch_there Truths (Truth false) some is sure = (1, refl, refl)
branch_there (Enum p n) Nil some is sure = absurd (sure refl)
branch_there (Enum p n) (Int z) some is sure = absurd is
branch_there (Enum p n) (Truth b) some is sure = absurd is
branch_there (Enum p n) (Name k) some is sure = (k, refl, name_there 0 n k is ∙ ap (λ j. Some (Name j)) (zero-add k))

pub pattern_at : (u : Kind) (b : ℕ) (d : Datum) → slice_get (clock_values u) b ≡ Some d → Contains (clock_values u) d
pattern_at u b d at = (b, slice_get_within (clock_values u) b d at, get_or_from_slice_get (clock_values u) b d d at)

-- there are some for truth values, and where an enumeration has names
pub some_values : clock_values Truths ≢ []
some_values e = cc

pub some_names : (p n : ℕ) → clock_values (Enum p (suc n)) ≢ []
some_names p n e = cc

-- the branch of a value, where the merge fits
pub branch_at : (flat : FlatView) (class : ℕ → Bool) (s : Kind) (c : ℕ) (ds : List Datum) (xs : List ℕ) (b : ℕ) (d : Datum) → BranchesFit flat class s c ds xs → slice_get ds b ≡ Some d
    → (x : ℕ) × (slice_get xs b ≡ Some x) × IsOn flat (On c d) s x × (class x ≡ false)
branch_at flat class s c [] xs b d fit at = let no : None ≡ Some d = at in cc
branch_at flat class s c (e ∷ ds) [] b d fit at = absurd fit
branch_at flat class s c (e ∷ ds) (x ∷ xs) zero d fit at = (x, refl, subst (λ d. IsOn flat (On c d) s x) (same_Some e d at) fit.0, fit.1)
branch_at flat class s c (e ∷ ds) (x ∷ xs) (suc b) d fit at = branch_at flat class s c ds xs b d fit.2 at

-- the value of a branch
pub value_there : (flat : FlatView) (class : ℕ → Bool) (s : Kind) (c : ℕ) (ds : List Datum) (xs : List ℕ) (b x : ℕ) → BranchesFit flat class s c ds xs → slice_get xs b ≡ Some x → (d : Datum) × (slice_get ds b ≡ Some d)
value_there flat class s c [] [] b x fit at = let no : None ≡ Some x = at in cc
value_there flat class s c [] (y ∷ xs) b x fit at = absurd fit
value_there flat class s c (e ∷ ds) [] b x fit at = absurd fit
value_there flat class s c (e ∷ ds) (y ∷ xs) zero x fit at = (e, refl)
value_there flat class s c (e ∷ ds) (y ∷ xs) (suc b) x fit at = value_there flat class s c ds xs b x fit.2 at

-- the clocks of the values of a type split a variable
pub splits : SplitLaw
splits Ints x some is sure = absurd (some refl)
splits Truths Nil some is sure = absurd (sure refl)
splits Truths (Int n) some is sure = absurd is
splits Truths (Name k) some is sure = absurd is
splits Truths (Truth true) some is sure = record { own = 0; inside = omega arith; clocks = clocks }
  where
    clocks : (j : ℕ) (d : Datum) → slice_get (clock_values Truths) j ≡ Some d → truth_in d (Known (Present (Truth true))) ≡ Some (nat_eq j 0)
    clocks zero d at = ap (λ d. truth_in d (Known (Present (Truth true)))) (sym (same_Some (Truth true) d at))
    clocks (suc zero) d at = ap (λ d. truth_in d (Known (Present (Truth true)))) (sym (same_Some (Truth false) d at))
    clocks (suc (suc j)) d at = let no : None ≡ Some d = at in cc
splits Truths (Truth false) some is sure = record { own = 1; inside = omega arith; clocks = clocks }
  where
    clocks : (j : ℕ) (d : Datum) → slice_get (clock_values Truths) j ≡ Some d → truth_in d (Known (Present (Truth false))) ≡ Some (nat_eq j 1)
    clocks zero d at = ap (λ d. truth_in d (Known (Present (Truth false)))) (sym (same_Some (Truth true) d at))
    clocks (suc zero) d at = ap (λ d. truth_in d (Known (Present (Truth false)))) (sym (same_Some (Truth false) d at))
    clocks (suc (suc j)) d at = let no : None ≡ Some d = at in cc
splits (Enum p n) Nil some is sure = absurd (sure refl)
splits (Enum p n) (Int z) some is sure = absurd is
splits (Enum p n) (Truth b) some is sure = absurd is
splits (Enum p n) (Name k) some is sure =
    record {
      own = k;
      inside = let long = length-map-range_with_len Name 0 n in omega (arith, long, is);
      clocks = λ j d at.
          let w = name_at 0 n j d at in
          ap (λ d. truth_in d (Known (Present (Name k)))) w.1 ∙ ap (λ i. Some (nat_eq i k)) (zero-add j);
    }
