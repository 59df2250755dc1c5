-- Columns that are filled line by line.
use Rattle.std.specs.Prelude.{◌≡◌, ◌≢◌, ℕ, ◌+◌, ◌<◌, ◌≤◌, List, [], ◌∷◌, ◌++◌, length, map, All, true, false}
use Rattle.std.specs.Prelude.{count_by, Option, Some, None, Result, Ok, Err}
use Rattle.std.specs.List.{flat_map}
use Rattle.std.specs.Borrow.{Bor}
use Rattle.std.specs.declared.vec.Vec.{Vec}
use Rattle.std.specs.declared.string.String.{String}
use Rattle.std.specs.declared.alloc.Global.{Global}
use Rattle.luflow.specs.declared.data.Datum.{Datum}
use Rattle.luflow.specs.declared.values.Values.{Values}
use Rattle.luflow.specs.declared.variable.Enum.{Enum}
use Rattle.luflow.specs.declared.variable.Variable.{Variable}
use Rattle.luflow.specs.Program.{Column, InputsView}
use Rattle.luflow.specs.Tables.{columns_view}
use Rattle.lutab.specs.declared.error.LineError.{LineError}
use Rattle.lutab.specs.declared.error.LineError.TheVariants as errors
use Rattle.lutab.specs.declared.error.TabError.{TabError}
use Rattle.lutab.specs.declared.error.TabError.TheVariants.{BadHeader, BadRow, BadValue, TooLong, OutOfMemory}
use Rattle.lutab.specs.Text.{Sort, HasKind, IsRow, row_text}
use Rattle.lutab.specs.Table.{rows_of, sorts_of, is_feed, is_bad_row, is_too_long, IsNoRow, IsTextOf}
use Rattle.lutab.specs.Table.{IsRefused}

-- a row at the end of the columns
unfoldable pub with_row : List Column → List Datum → List Column
with_row [] row = []
with_row (c ∷ cs) [] = c ∷ cs
with_row (c ∷ cs) (d ∷ ds) = record { name = c.name; values = c.values ++ d ∷ [] } ∷ with_row cs ds

-- What reading a row left in the columns and answered, where the bytes have this reading.
abbrev pub FillsRow : List Column → List Column → Result (Bor (List ℕ)) LineError
    → Option (List Datum × List ℕ) → Type 0
FillsRow old new (Ok rest) reading = (row : List Datum) × (reading ≡ Some (row, rest.now))
    × (new ≡ with_row old row)
FillsRow old new (Err errors.OutOfMemory) reading = Unit {0}
FillsRow old new (Err errors.Faulty) reading = reading ≡ None

-- The same of one field and its column.
abbrev pub FillsField : List Datum → List Datum → Result (Bor (List ℕ)) LineError → Option (Datum × List ℕ)
    → Type 0
FillsField old new (Ok rest) reading = (d : Datum) × (reading ≡ Some (d, rest.now)) × (new ≡ old ++ d ∷ [])
FillsField old new (Err errors.OutOfMemory) reading = Unit {0}
FillsField old new (Err errors.Faulty) reading = reading ≡ None

-- What reading a line left in the columns and answered, by what the line spells.
abbrev pub ReadsLine : List Sort → List ℕ → List Column → List Column → Result (Bor (List ℕ)) LineError
    → Type 0
ReadsLine ks bytes old new (Ok rest) =
    (row : List Datum) × IsRow ks row × (bytes ≡ row_text ks row ++ rest.now) × (new ≡ with_row old row)
ReadsLine ks bytes old new (Err errors.OutOfMemory) = Unit {0}
ReadsLine ks bytes old new (Err errors.Faulty) = IsNoRow ks bytes

-- n values in each column, each of its type
abbrev pub AreFilled : ℕ → List Sort → List Column → Type 0
AreFilled n [] [] = Unit {0}
AreFilled n [] (c ∷ cs) = ⊥
AreFilled n (k ∷ ks) [] = ⊥
AreFilled n (k ∷ ks) (c ∷ cs) = (length c.values ≡ n) × All (HasKind k) c.values × AreFilled n ks cs

-- The lines behind the header are rows of these types up to this line, which begins the rest.
pub record IsReached (ks : List Sort) (body : List ℕ) (line : ℕ) (rest : List ℕ) : Type 0 where
  pub rows : List (List Datum)
  pub each : All (IsRow ks) rows
  pub before : body ≡ flat_map (row_text ks) rows ++ rest
  pub number : line ≡ length rows + 2
  pub some : 0 < length rest

-- Behind the header are n lines, all of them in the columns, which have these names.
pub record AreRead (ks : List Sort) (names : List (List ℕ)) (body : List ℕ) (n : ℕ)
    (columns : List Column) : Type 0 where
  pub filled : AreFilled n ks columns
  pub named : map (λ c. c.name) columns ≡ names
  pub spelled : body ≡ flat_map (row_text ks) (rows_of columns n)
  pub few : n ≤ count_by is_feed body

-- the first line behind the header that is no row of these types, and what is wrong with it
abbrev pub IsLineFault : List Sort → List ℕ → TabError → Type 0
IsLineFault ks body TooLong = ⊥
IsLineFault ks body BadHeader = ⊥
IsLineFault ks body (BadRow line) = (rest : List ℕ) × IsReached ks body line rest
    × (is_bad_row (length ks) rest ≡ true)
IsLineFault ks body (BadValue line) = (rest : List ℕ) × IsReached ks body line rest
    × (is_bad_row (length ks) rest ≡ false) × IsNoRow ks rest
IsLineFault ks body OutOfMemory = Unit {0}

-- What reading the lines behind the header leaves and answers.
abbrev pub ReadsLines : List Sort → List ℕ → List Column → List Column → Result ℕ TabError → Type 0
ReadsLines ks body old new (Ok n) = AreRead ks (map (λ c. c.name) old) body n new
ReadsLines ks body old new (Err e) = IsLineFault ks body e

-- columns of these inputs, of no values
abbrev pub AreEmptyOf : List Enum → List Variable → List Column → Type 0
AreEmptyOf types inputs columns = (map (λ c. c.name) columns ≡ map (λ x. x.name) inputs)
    × AreFilled 0 (sorts_of types inputs) columns

-- What reading the lines behind the header of these inputs answers.
abbrev pub ReadsColumns : List Enum → List Variable → List ℕ
    → Result (ℕ × Vec (String Global × Values) Global) TabError → Type 0
ReadsColumns types inputs body (Ok x) =
    AreRead (sorts_of types inputs) (map (λ y. y.name) inputs) body x.0 (columns_view x.1.items)
ReadsColumns types inputs body (Err e) = IsLineFault (sorts_of types inputs) body e

-- What reading the text of a table of these inputs answers.
abbrev pub ReadsText : List Enum → List Variable → List ℕ → Result InputsView TabError → Type 0
ReadsText types inputs text (Ok table) = (is_too_long text ≡ false) × IsTextOf types inputs table text
ReadsText types inputs text (Err e) = e ≢ OutOfMemory → IsRefused types inputs text e
