-- What a site reads of its own columns.
use Rattle.std.proofs.Common.{get_or, take, ◌++◌, ◌≡◌, ℕ, zero, suc, ◌+◌, ◌<◌, ◌≤◌, true, false, cond, List, [], ◌∷◌, length, map, Some, None, sym, ap, ◌∙◌, refl, arith, inl, inr}
use Rattle.std.specs.Prelude.{slice_get, unwrap_or}
use Rattle.std.specs.List.{range_with_len}
use Rattle.std.proofs.lemmas.Bool.{cases_lt}
use Rattle.std.proofs.lemmas.List.{map-append, take_more}
use Rattle.luflow.specs.Program.{column_of, data_of}
use Rattle.luworld.specs.Needs.{stands}
use Rattle.luworld.specs.Jobs.{JobView}
use Rattle.luplace.specs.SiteInputsViews.{column_at, columns_at, datum_of}

pub map_range : {X : Type 0} (f : ℕ → X) (a n k : ℕ) → k < n → slice_get (map f (range_with_len a n)) k ≡ Some (f (a + k))
map_range f a zero k l = absurd (omega arith)
map_range f a (suc n) zero l = let e : a ≡ a + 0 = omega arith in ap (λ x. Some (f x)) e
map_range f a (suc n) (suc k) l = let e : a + 1 + k ≡ a + suc k = omega arith in map_range f (a + 1) n k (omega arith) ∙ ap (λ x. Some (f x)) e

past_range : {X : Type 0} (f : ℕ → X) (a n k : ℕ) → n ≤ k → slice_get (map f (range_with_len a n)) k ≡ None
past_range f a zero k l = refl
past_range f a (suc n) zero l = absurd (omega arith)
past_range f a (suc n) (suc k) l = past_range f (a + 1) n k (omega arith)

past_list : {X : Type 0} (xs : List X) (k : ℕ) → length xs ≤ k → slice_get xs k ≡ None
past_list [] k l = refl
past_list (x ∷ xs) zero l = absurd (omega arith)
past_list (x ∷ xs) (suc k) l = past_list xs k (omega arith)

-- a site's own column gives the input's data
pub own_column : (job : JobView) (s c t : ℕ) → stands job.plan c s ≡ true → datum_of (slice_get (columns_at job s) c) t ≡ slice_get (column_of job.inputs c) t
own_column job s c t own = elim (cases_lt c (length job.inputs.columns)) [
  | inl l ↦
      ap (λ o. datum_of o t) (map_range (column_at job s) 0 (length job.inputs.columns) c l)
      ∙ ap (λ k. datum_of (Some (column_at job s k)) t) (let e : 0 + c ≡ c = omega arith in e)
      ∙ ap (λ b. datum_of (Some (cond b (Some (column_of job.inputs c)) None)) t) own
  | inr g ↦
      ap (λ o. datum_of o t) (past_range (column_at job s) 0 (length job.inputs.columns) c g)
      ∙ sym (ap (λ o. slice_get (data_of o) t) (past_list job.inputs.columns c g))
]

-- there is no column that stands elsewhere
pub no_column : (job : JobView) (s c t : ℕ) → stands job.plan c s ≡ false → datum_of (slice_get (columns_at job s) c) t ≡ None
no_column job s c t other = elim (cases_lt c (length job.inputs.columns)) [
  | inl l ↦
      ap (λ o. datum_of o t) (map_range (column_at job s) 0 (length job.inputs.columns) c l)
      ∙ ap (λ k. datum_of (Some (column_at job s k)) t) (let e : 0 + c ≡ c = omega arith in e)
      ∙ ap (λ b. datum_of (Some (cond b (Some (column_of job.inputs c)) None)) t) other
  | inr g ↦ ap (λ o. datum_of o t) (past_range (column_at job s) 0 (length job.inputs.columns) c g)
]

range_more : (a n : ℕ) → range_with_len a (n + 1) ≡ range_with_len a n ++ (a + n) ∷ []
range_more a zero = let e : a ≡ a + 0 = omega arith in ap (λ x. x ∷ []) e
range_more a (suc n) =
    let e : a + 1 + n ≡ a + suc n = omega arith in
    let c : suc n + 1 ≡ suc (n + 1) = omega arith in
    ap (range_with_len a) c ∙ ap (λ xs. a ∷ xs) (range_more (a + 1) n ∙ ap (λ x. range_with_len (a + 1) n ++ x ∷ []) e)

pub map_more : {X : Type 0} (f : ℕ → X) (n : ℕ) → map f (range_with_len 0 (n + 1)) ≡ map f (range_with_len 0 n) ++ f n ∷ []
map_more f n =
    let z : 0 + n ≡ n = omega arith in
    ap (map f) (range_more 0 n) ∙ map-append f (range_with_len 0 n) ((0 + n) ∷ []) ∙ ap (λ u. map f (range_with_len 0 n) ++ f u ∷ []) z

-- what a list's first items are mapped to, and one item more
pub map_taken : {X Y : Type 0} (f : X → Y) (xs : List X) (i : ℕ) (d x : X) → i < length xs → x ≡ get_or xs i d → map f (take (i + 1) xs) ≡ map f (take i xs) ++ f x ∷ []
map_taken f xs i d x l e = ap (map f) (take_more xs i d l) ∙ map-append f (take i xs) (get_or xs i d ∷ []) ∙ ap (λ y. map f (take i xs) ++ f y ∷ []) (sym e)
