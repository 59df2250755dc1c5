-- Reading the fields of a row one after the other, each into its column.
use Rattle.std.proofs.Common.{◌≡◌, ℕ, zero, suc, ◌+◌, ◌<◌, ◌≤◌, List, [], ◌∷◌, ◌++◌, length, get_or, set, drop, Option, Some, None, refl, sym, ap, ◌∙◌, arith, append_assoc, length-append}
use Rattle.lutree.specs.declared.program.Kind.{Kind}
use Rattle.luflow.specs.declared.data.Datum.{Datum}
use Rattle.luflow.specs.declared.values.Values.{Values}
use Rattle.luflow.specs.Packed.{data_in}
use Rattle.luflow.specs.declared.variable.Enum.{Enum}
use Rattle.lutab.specs.Text.{Sort, sort_of}
use Rattle.lutab.specs.Table.{sorts_in}
use Rattle.luflow.specs.Program.{Column}
use Rattle.luflow.specs.Tables.{column_view, columns_view}
use Rattle.std.specs.declared.string.String.{String}
use Rattle.lutab.specs.Reading.{◌>>=◌, skip, end_before, field_at, fields_at, row_at}
use Rattle.std.proofs.Common.{Ok, Err, take, ◌-◌, add-one}
use Rattle.std.proofs.lemmas.List.{map-set, take_all, length-drop, length-map}
use Rattle.std.proofs.Math.ListN.{get_or-map}
use Rattle.std.specs.Borrow.{Bor}
use Rattle.std.specs.declared.alloc.Global.{Global}
use Rattle.lutab.specs.declared.error.LineError.{LineError}
use Rattle.lutab.specs.declared.error.LineError.TheVariants as errors
use Rattle.lutab.specs.Filling.{with_row, FillsField, FillsRow}

-- the fields read so far, and those that are still read
abbrev pub with_front : List Datum → Option (List Datum × List ℕ) → Option (List Datum × List ℕ)
with_front front read = read >>= λ x. Some (front ++ x.0, x.1)

-- what i fields have left in the columns, and what follows them
pub record SoFar (kinds : List Sort) (bytes : List ℕ) (old : List Column) (i : ℕ) (rest : List ℕ) (now : List Column) : Type 0 where
  pub row : List Datum
  pub len : length row ≡ i
  pub read : with_front row (fields_at (drop i kinds) rest) ≡ fields_at kinds bytes
  pub filled : now ≡ with_row old row

front_none : (read : Option (List Datum × List ℕ)) → with_front [] read ≡ read
front_none (Some x) = refl
front_none None = refl

pub row_none : (old : List Column) → old ≡ with_row old []
unfolding with_row
row_none [] = refl
row_none (c ∷ cs) = refl

pub begins : (kinds : List Sort) (bytes : List ℕ) (old : List Column) → SoFar kinds bytes old 0 bytes old
begins kinds bytes old = record { row = []; len = refl; read = front_none (fields_at kinds bytes); filled = row_none old }

regroup : (front : List Datum) (d : Datum) (read : Option (List Datum × List ℕ)) → with_front front (read >>= λ x. Some (d ∷ x.0, x.1)) ≡ with_front (front ++ d ∷ []) read
regroup front d (Some x) = ap (λ (ds : List Datum). Some (ds, x.1)) (simp append_assoc)
regroup front d None = refl

-- one more value goes to the end of the next column
row_more : (old : List Column) (row : List Datum) (d : Datum) (n : Column) → length row < length old →
    set (with_row old row) (length row) (record { name = (get_or (with_row old row) (length row) n).name; values = (get_or (with_row old row) (length row) n).values ++ d ∷ [] }) ≡ with_row old (row ++ d ∷ [])
unfolding with_row
row_more [] row d n lt = absurd (omega arith)
row_more (c ∷ cs) [] d n lt = ap (λ (x : List Column). record { name = c.name; values = c.values ++ d ∷ [] } ∷ x) (row_none cs)
row_more (c ∷ cs) (x ∷ row) d n lt = ap (λ (y : List Column). record { name = c.name; values = c.values ++ x ∷ [] } ∷ y) (row_more cs row d n (omega arith))

drop_at_index : (kinds : List Sort) (i : ℕ) (k : Sort) → i < length kinds → drop i kinds ≡ get_or kinds i k ∷ drop (suc i) kinds
drop_at_index [] i k lt = absurd (omega arith)
drop_at_index (x ∷ xs) zero k lt = refl
drop_at_index (x ∷ xs) (suc i) k lt = drop_at_index xs i k (omega arith)

-- reading from field i on
pub step : (kinds : List Sort) (i : ℕ) (k : Sort) (rest : List ℕ) → i < length kinds → fields_at (drop i kinds) rest ≡ (field_at (get_or kinds i k) (end_before (drop (suc i) kinds)) rest >>= λ v. fields_at (drop (suc i) kinds) v.1 >>= λ x. Some (v.0 ∷ x.0, x.1))
unfolding fields_at
step kinds i k rest lt = rw (drop_at_index kinds i k lt) refl

pub goes_on : (kinds : List Sort) (bytes : List ℕ) (old : List Column) (i : ℕ) (rest : List ℕ) (now : List Column) (k : Sort) (d : Datum) (after : List ℕ) (n : Column) →
    SoFar kinds bytes old i rest now → i < length kinds → length old ≡ length kinds → field_at (get_or kinds i k) (end_before (drop (suc i) kinds)) rest ≡ Some (d, after) →
    SoFar kinds bytes old (suc i) after (set now i (record { name = (get_or now i n).name; values = (get_or now i n).values ++ d ∷ [] }))
goes_on kinds bytes old i rest now k d after n so lt same read = record {
  row = so.row ++ d ∷ [];
  len = omega (arith, length-append so.row (d ∷ []), so.len);
  read =
      let one : fields_at (drop i kinds) rest ≡ (fields_at (drop (suc i) kinds) after >>= λ x. Some (d ∷ x.0, x.1)) = step kinds i k rest lt ∙ rw read refl in
      sym (ap (with_front so.row) one ∙ regroup so.row d (fields_at (drop (suc i) kinds) after)) ∙ so.read;
  filled = rw (so.filled, ← so.len) (row_more old so.row d n (omega (arith, so.len)));
}

pub stops : (kinds : List Sort) (bytes : List ℕ) (old : List Column) (i : ℕ) (rest : List ℕ) (now : List Column) (k : Sort) →
    SoFar kinds bytes old i rest now → i < length kinds → field_at (get_or kinds i k) (end_before (drop (suc i) kinds)) rest ≡ None → fields_at kinds bytes ≡ None
stops kinds bytes old i rest now k so lt read =
    let one : fields_at (drop i kinds) rest ≡ None = step kinds i k rest lt ∙ rw read refl in
    sym so.read ∙ ap (with_front so.row) one

drop_all : (kinds : List Sort) (i : ℕ) → length kinds ≤ i → drop i kinds ≡ []
drop_all [] zero le = refl
drop_all [] (suc i) le = refl
drop_all (x ∷ xs) zero le = absurd (omega arith)
drop_all (x ∷ xs) (suc i) le = drop_all xs i (omega arith)

front_all : (row : List Datum) (rest : List ℕ) → with_front row (Some ([], rest)) ≡ Some (row, rest)
front_all [] rest = refl
front_all (d ∷ row) rest = ap (λ (x : Option (List Datum × List ℕ)). x >>= λ y. Some (d ∷ y.0, y.1)) (front_all row rest)

pub ends : (kinds : List Sort) (bytes : List ℕ) (old : List Column) (i : ℕ) (rest : List ℕ) (now : List Column) → (so : SoFar kinds bytes old i rest now) → length kinds ≤ i → fields_at kinds bytes ≡ Some (so.row, rest)
unfolding fields_at
ends kinds bytes old i rest now so le = sym so.read ∙ (rw (drop_all kinds i le) (front_all so.row rest))

-- a line without fields
pub empty_row : (kinds : List Sort) (bytes rest : List ℕ) → length kinds < 1 → Some rest ≡ skip 10 bytes → row_at kinds bytes ≡ Some ([], rest)
unfolding row_at
empty_row [] bytes rest lt read = rw (← read) refl
empty_row (k ∷ kinds) bytes rest lt read = absurd (omega arith)

-- a line with fields
pub some_row : (kinds : List Sort) (bytes : List ℕ) → 0 < length kinds → fields_at kinds bytes ≡ row_at kinds bytes
unfolding row_at
some_row [] bytes lt = absurd (omega arith)
some_row (k ∷ kinds) bytes lt = refl

-- the types of a row that is read, in a program with these types
module _ (types : List Enum) where
  pub sort_at : (kinds : List Kind) (i : ℕ) (k : Kind) → get_or (sorts_in types kinds) i (sort_of types k) ≡ sort_of types (get_or kinds i k)
  sort_at kinds i k = get_or-map (sort_of types) kinds i k

  pub as_many : (kinds : List Kind) → length (sorts_in types kinds) ≡ length kinds
  as_many kinds = length-map kinds (sort_of types)

  sorts_behind : (n : ℕ) (kinds : List Kind) → sorts_in types (drop n kinds) ≡ drop n (sorts_in types kinds)
  sorts_behind zero kinds = refl
  sorts_behind (suc n) [] = refl
  sorts_behind (suc n) (k ∷ kinds) = sorts_behind n kinds

  -- a field that isn't read ends the row
  pub fails : (e : LineError) (kinds : List Kind) (bytes : List ℕ) (old : List Column) (i : ℕ) (rest : List ℕ) (now : List Column) (k : Kind) (end : ℕ) (a b : List Datum) (left : List Column) →
      SoFar (sorts_in types kinds) bytes old i rest now → i < length kinds → end ≡ end_before (drop (suc i) (sorts_in types kinds)) → FillsField a b (Err e) (field_at (sort_of types (get_or kinds i k)) end rest) → FillsRow old left (Err e) (fields_at (sorts_in types kinds) bytes)
  fails errors.OutOfMemory kinds bytes old i rest now k end a b left so lt is h = tt
  fails errors.Faulty kinds bytes old i rest now k end a b left so lt is h =
      let n = as_many kinds in
      stops (sorts_in types kinds) bytes old i rest now (sort_of types k) so (omega (arith, n, lt)) (rw (← is, sort_at kinds i k) h)

  -- one more field
  pub one_more : (kinds : List Kind) (bytes : List ℕ) (old : List Column) (i : ℕ) (rest : List ℕ) (columns : List (String Global × Values)) (k : Kind) (end : ℕ) (column : String Global × Values) (new : Values) (after : Bor (List ℕ)) →
      SoFar (sorts_in types kinds) bytes old i rest (columns_view columns) → i < length kinds → length old ≡ length kinds → end ≡ end_before (drop (suc i) (sorts_in types kinds)) →
      FillsField (data_in (get_or columns i column).1) (data_in new) (Ok after) (field_at (sort_of types (get_or kinds i k)) end rest) → SoFar (sorts_in types kinds) bytes old (suc i) after.now (columns_view (set columns i ((get_or columns i column).0, new)))
  one_more kinds bytes old i rest columns k end column new after so lt same is h =
      let n = as_many kinds in
      let g = goes_on (sorts_in types kinds) bytes old i rest (columns_view columns) (sort_of types k) h.0 after.now (column_view column) so (omega (arith, n, lt)) (omega (arith, n, same)) (rw (← is, sort_at kinds i k) h.1) in
      let at : get_or (columns_view columns) i (column_view column) ≡ column_view (get_or columns i column) = get_or-map column_view columns i column in
      let e : columns_view (set columns i ((get_or columns i column).0, new)) ≡ set (columns_view columns) i (record { name = (get_or (columns_view columns) i (column_view column)).name; values = (get_or (columns_view columns) i (column_view column)).values ++ h.0 ∷ [] }) =
      map-set column_view columns i ((get_or columns i column).0, new) ∙ rw (at, h.2) refl in
      rw e g

  -- the types behind field i, as the slice from i + 1 on has them
  pub later : (kinds : List Kind) (i end : ℕ) → end ≡ end_before (sorts_in types (take (length kinds - (i + 1)) (drop (i + 1) kinds))) → end ≡ end_before (drop (suc i) (sorts_in types kinds))
  later kinds i end e =
      e ∙ rw (take_all (length kinds - (i + 1)) (drop (i + 1) kinds) (omega (arith, length-drop (i + 1) kinds)), add-one) (ap end_before (sorts_behind (suc i) kinds))
