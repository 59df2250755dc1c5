-- The columns of the main variables, and what they say of each solution.
use Rattle.std.proofs.Common.{◌≡◌, ◌≢◌, ℕ, zero, suc, ◌+◌, ◌<◌, ◌≤◌, inl, inr, List, [], ◌∷◌, ◌++◌, length, map, get_or, Option, Some, None, subst, refl, sym, ap, ap₂, ◌∙◌, arith}
use Rattle.std.specs.Prelude.{All, Contains, slice_get, slice_index, vec_capacity, true}
use Rattle.std.specs.Option.{option_map}
use Rattle.std.specs.List.{range_with_len}
use Rattle.std.proofs.lemmas.List.Elements.{All-nil, All-from_get_or}
use Rattle.std.proofs.lemmas.List.{length-map}
use Rattle.std.proofs.lemmas.List.FromFn.{map-range_with_len_more, length-map-range_with_len}
use Rattle.std.proofs.lemmas.Bool.{cases_lt}
use Rattle.std.proofs.lemmas.Option.{slice_get_within, slice_get-map, slice_get-get_or, same_Some}
use Rattle.luflow.specs.declared.data.Status.{Status}
use Rattle.luflow.specs.declared.variable.Variable.{Variable}
use Rattle.luflow.specs.declared.variable.Role.{Role}
use Rattle.luflow.specs.declared.variable.Role.TheVariants.{Input, Output, Local}
use Rattle.luflow.specs.Program.{InputsView}
use Rattle.luflow.specs.Streams.{Mark, Known, Streams}
use Rattle.luflow.specs.Messages.{marks}
use Rattle.luflow.proofs.Solutions.{place_in, some_at}
use Rattle.lueval_lines.specs.Columns.{Column, items_of, lists_of, is_wanted, AreKept, AreAllKept, AreEmpty, IsColumn, AreColumns, IsLonger}
use Rattle.lueval_lines.specs.declared.columns.Wanted.TheVariants.{All as AllOf}
use Rattle.lueval_lines.proofs.Spans.{slice_get-set_other, slice_get-set_same}

map_snoc : {X Y : Type 0} (f : X → Y) (xs : List X) (x : X) → map f (xs ++ x ∷ []) ≡ map f xs ++ f x ∷ []
map_snoc f [] x = refl
map_snoc f (y ∷ xs) x = ap (λ zs. f y ∷ zs) (map_snoc f xs x)

marks_len : (s : ℕ → Mark) (n : ℕ) → length (marks s n) ≡ n
marks_len s n = length-map-range_with_len s 0 n

-- a column that got the status of its instant
pub column_longer : (inputs : InputsView) (σ : Streams) (t v : ℕ) (x row : Column) (status : Status) → IsColumn inputs σ t v x → σ v t ≡ Known status → row.items ≡ x.items ++ status ∷ [] → vec_capacity row ≡ vec_capacity x → IsColumn inputs σ (t + 1) v row
column_longer inputs σ t v x row status is known items capacity =
    record {
      known =
          ap (map Known) items ∙ map_snoc Known x.items status ∙ ap₂ (λ (ms : List Mark) (m : Mark). ms ++ m ∷ []) is.known (sym known)
          ∙ sym (map-range_with_len_more (σ v) 0 t t (omega arith));
      room = let r = is.room in omega (arith, capacity);
    }

-- a column has room at each instant of the table
pub column_room : (inputs : InputsView) (σ : Streams) (t v : ℕ) (x : Column) → IsColumn inputs σ t v x → t < inputs.instants → length x.items < vec_capacity x
column_room inputs σ t v x is lt =
    let n : length x.items ≡ t = sym (length-map x.items Known) ∙ ap length is.known ∙ marks_len (σ v) t in
    let r = is.room in omega (arith, n)

-- the columns of rank below k have their status at t, and the others not yet
pub record AreNoted (inputs : InputsView) (σ : Streams) (kept : List ℕ) (columns : List Column) (t k : ℕ) : Type 0 where
  pub noted : (j : ℕ) (column : Column) → j < k → j < length kept → slice_get columns (slice_index kept j) ≡ Some column → IsColumn inputs σ (t + 1) (slice_index kept j) column
  pub left : (j : ℕ) (column : Column) → k ≤ j → j < length kept → slice_get columns (slice_index kept j) ≡ Some column → IsColumn inputs σ t (slice_index kept j) column

pub note_begin : (inputs : InputsView) (σ : Streams) (kept : List ℕ) (columns : List Column) (t : ℕ) → AreColumns inputs σ kept columns t → AreNoted inputs σ kept columns t 0
note_begin inputs σ kept columns t are = record { noted = λ j column l. absurd (omega arith); left = λ j column l lj there. are j column lj there }

pub note_end : (inputs : InputsView) (σ : Streams) (kept : List ℕ) (columns : List Column) (t k : ℕ) → length kept ≤ k → AreNoted inputs σ kept columns t k → AreColumns inputs σ kept columns (t + 1)
note_end inputs σ kept columns t k over are j column lj there = are.noted j column (omega arith) lj there

-- numbers in order are each there once
once : (kept : List ℕ) → ((j k : ℕ) → j < k → k < length kept → slice_index kept j < slice_index kept k) → (j k : ℕ) → j < length kept → k < length kept → slice_index kept j ≡ slice_index kept k → j ≡ k
once kept up j k lj lk same = elim (cases_lt j k) [
  | inl l ↦ let u = up j k l lk in absurd (omega (arith, u, same))
  | inr g ↦ elim (cases_lt k j) [
    | inl l ↦ let u = up k j l lj in absurd (omega (arith, u, same))
    | inr h ↦ omega arith
  ]
]

pub note_one : (inputs : InputsView) (σ : Streams) (count : ℕ) (kept : List ℕ) (columns columns' : List Column) (t k : ℕ) (x : Column) (status : Status) → AreKept count kept → k < length kept → AreNoted inputs σ kept columns t k → slice_get columns (slice_index kept k) ≡ Some x → σ (slice_index kept k) t ≡ Known status → IsLonger columns (slice_index kept k) x status columns' → AreNoted inputs σ kept columns' t (k + 1)
note_one inputs σ count kept columns columns' t k x status are_kept lk are there known longer =
    let v = slice_index kept k in
    let lv = slice_get_within columns v x there in
    let other : (j : ℕ) → j < length kept → j ≢ k → slice_get columns' (slice_index kept j) ≡ slice_get columns (slice_index kept j) = λ j lj ne.
    ap (λ xs. slice_get xs (slice_index kept j)) longer.is ∙ slice_get-set_other columns v (slice_index kept j) longer.row (λ e. ne (once kept are_kept.ascending j k lj lk e)) in
    record {
      noted = λ j column l lj at. elim (cases_lt j k) [
        | inl h ↦ are.noted j column h lj (sym (other j lj (λ e. let g : j < k = h in absurd (omega arith))) ∙ at)
        | inr h ↦
            let e : k ≡ j = omega arith in
            let here : slice_get columns' v ≡ Some longer.row = ap (λ xs. slice_get xs v) longer.is ∙ slice_get-set_same columns v longer.row lv in
            let same : longer.row ≡ column = same_Some longer.row column (sym here ∙ ap (λ (m : ℕ). slice_get columns' (slice_index kept m)) e ∙ at) in
            subst (λ (m : ℕ). IsColumn inputs σ (t + 1) (slice_index kept m) column) e (subst (λ (y : Column). IsColumn inputs σ (t + 1) v y) same (column_longer inputs σ t v x longer.row status (are.left k x (omega arith) lk there) known longer.items longer.capacity))
      ];
      left = λ j column l lj at. are.left j column (omega arith) lj (sym (other j lj (λ e. let g : k + 1 ≤ j = l in absurd (omega arith))) ∙ at);
    }

pub columns_begin : (count : ℕ) (inputs : InputsView) (σ : Streams) (kept : List ℕ) (columns : List Column) → AreEmpty count kept inputs.instants columns → AreColumns inputs σ kept columns 0
columns_begin count inputs σ kept columns are k column lk there =
    let e = are.each k column lk there in
    record { known = ap (map Known) e.empty; room = e.room }

pub map_same : {X : Type 0} (f g : ℕ → X) (a n : ℕ) → ((k : ℕ) → f k ≡ g k) → map f (range_with_len a n) ≡ map g (range_with_len a n)
map_same f g a zero h = refl
map_same f g a (suc n) h = ap₂ (λ x xs. x ∷ xs) (h a) (map_same f g (a + 1) n h)

-- a list of the whole, by its column
pub from_map : (columns : List Column) (o : Option Column) (v : ℕ) (statuses : List Status) → slice_get columns v ≡ o → slice_get (lists_of columns) v ≡ Some statuses → (x : Column) × (slice_get columns v ≡ Some x) × (x.items ≡ statuses)
from_map columns None v statuses e h = let f = slice_get-map items_of columns v in absurd cc
from_map columns (Some x) v statuses e h =
    let f = slice_get-map items_of columns v in
    (x, e, same_Some x.items statuses (sym (f ∙ ap (option_map items_of) e) ∙ h))

every_role : (r : Role) → is_wanted AllOf r ≡ true
every_role Input = refl
every_role Output = refl
every_role Local = refl

-- the column of a variable that is kept
pub column_at : (inputs : InputsView) (σ : Streams) (kept : List ℕ) (columns : List Column) (t v : ℕ) (x : Column) → AreColumns inputs σ kept columns t → Contains kept v → slice_get columns v ≡ Some x → IsColumn inputs σ t v x
column_at inputs σ kept columns t v x are among there =
    let w = place_in kept v among in
    subst (λ (n : ℕ). IsColumn inputs σ t n x) w.2 (are w.0 x w.1 (ap (slice_get columns) w.2 ∙ there))

-- where all are kept
pub every_column : (inputs : InputsView) (σ : Streams) (variables : List Variable) (kept : List ℕ) (columns : List Column) (t v : ℕ) (x : Column) → AreAllKept AllOf variables kept → length columns ≡ length variables → AreColumns inputs σ kept columns t → slice_get columns v ≡ Some x → IsColumn inputs σ t v x
every_column inputs σ variables kept columns t v x all len are there =
    let y = some_at variables v (let l = slice_get_within columns v x there in omega arith) in
    column_at inputs σ kept columns t v x are (all v y.0 y.1 (every_role y.0.role)) there

-- columns of the first t statuses have t each
pub columns_even : (inputs : InputsView) (σ : Streams) (variables : List Variable) (kept : List ℕ) (columns : List Column) (t : ℕ) → AreAllKept AllOf variables kept → length columns ≡ length variables → AreColumns inputs σ kept columns t → All (λ (x : Column). length x.items ≡ t) columns
columns_even inputs σ variables kept [] t all len are = All-nil (λ (x : Column). length x.items ≡ t)
columns_even inputs σ variables kept (y ∷ ys) t all len are =
    All-from_get_or (λ (x : Column). length x.items ≡ t) (y ∷ ys) y
    (λ v lt.
    let x = get_or (y ∷ ys) v y in
    sym (length-map x.items Known) ∙ ap length (every_column inputs σ variables kept (y ∷ ys) t v x all len are (slice_get-get_or (y ∷ ys) v y lt)).known ∙ marks_len (σ v) t)
