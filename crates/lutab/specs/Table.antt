-- The text of a table of inputs, and what is reported of a text that is none.
use Rattle.std.specs.Prelude.{◌≡◌, ◌⊎◌, ℕ, zero, suc, ◌+◌, ◌<◌, List, [], ◌∷◌, ◌++◌, length, map, All, Bool}
use Rattle.std.specs.Prelude.{true, false, not, ◌||◌, nat_lt, nat_eq, count_by, position, take, Result, Err}
use Rattle.std.specs.Prelude.{slice_index_or}
use Rattle.std.specs.List.{flat_map}
use Rattle.std.specs.Option.{option_map_or}
use Rattle.lubase.specs.Limits.{longest_table, most_instants}
use Rattle.lutree.specs.declared.program.Kind.{Kind}
use Rattle.luflow.specs.declared.data.Datum.{Datum}
use Rattle.luflow.specs.declared.data.Datum.TheVariants.{Nil}
use Rattle.luflow.specs.declared.variable.Enum.{Enum}
use Rattle.luflow.specs.declared.variable.Variable.{Variable}
use Rattle.luflow.specs.Program.{Column, InputsView}
use Rattle.luflow.specs.Tables.{IsTable, AreColumnsOf}
use Rattle.lutab.specs.declared.error.TabError.{TabError}
use Rattle.lutab.specs.declared.error.TabError.TheVariants.{BadHeader, BadRow, BadValue, TooLong, OutOfMemory}
use Rattle.lutab.specs.Text.{Sort, sort_of, IsWord, IsRow, line_text, row_text}

-- what the columns have at an instant, and at the first n instants
abbrev pub row_of : List Column → ℕ → List Datum
row_of columns t = map (λ c. slice_index_or c.values t Nil) columns

abbrev pub rows_of : List Column → ℕ → List (List Datum)
rows_of columns zero = []
rows_of columns (suc n) = rows_of columns n ++ row_of columns n ∷ []

-- the header of these inputs
abbrev pub header_text : List Variable → List ℕ
header_text inputs = line_text (map (λ x. x.name) inputs)

-- the types of these inputs
abbrev pub kinds_of : List Variable → List Kind
kinds_of inputs = map (λ x. x.kind) inputs

-- these types, in a program with these enumerations
abbrev pub sorts_in : List Enum → List Kind → List Sort
sorts_in types kinds = map (sort_of types) kinds

-- the types of these inputs in such a program
abbrev pub sorts_of : List Enum → List Variable → List Sort
sorts_of types inputs = sorts_in types (kinds_of inputs)

-- a line of the columns' names, and a line for each instant
abbrev pub table_text : List Sort → InputsView → List ℕ
table_text sorts table = line_text (map (λ c. c.name) table.columns) ++ flat_map (row_text sorts)
    (rows_of table.columns table.instants)

-- each value of these columns is one that a text spells
abbrev pub AreWords : List Sort → List Column → Type 0
AreWords [] columns = Unit {0}
AreWords (s ∷ sorts) [] = Unit {0}
AreWords (s ∷ sorts) (c ∷ columns) = All (IsWord s.names) c.values × AreWords sorts columns

-- The text is the spelling of this table of these inputs in a program with these enumerations: numbers have
-- 64 bits, and names are found by what is spelled.
pub record IsTextOf (types : List Enum) (inputs : List Variable) (table : InputsView)
    (text : List ℕ) : Type 0 where
  pub columns : AreColumnsOf inputs table.columns
  pub is_table : IsTable table
  pub words : AreWords (sorts_of types inputs) table.columns
  pub spelled : text ≡ table_text (sorts_of types inputs) table

abbrev pub is_feed : ℕ → Bool
is_feed byte = nat_eq byte 10

abbrev pub is_comma : ℕ → Bool
is_comma byte = nat_eq byte 44

-- more than 67,108,864 bytes, or more than a header and 1,000,000 instants
abbrev pub is_too_long : List ℕ → Bool
is_too_long text = nat_lt longest_table (length text) || nat_lt (most_instants + 1) (count_by is_feed text)

-- A line has one field more than it has commas; but where there are no inputs, an empty line has no field.
abbrev pub has_other_count : ℕ → List ℕ → Bool
has_other_count zero line = not (nat_eq (length line) 0)
has_other_count (suc n) line = not (nat_eq (count_by is_comma line) n)

-- the first line isn't ended, or has another number of fields
unfoldable pub is_bad_row : ℕ → List ℕ → Bool
is_bad_row fields rest = option_map_or (λ end. has_other_count fields (take end rest))
    (position is_feed rest) true

-- no row of these types is spelled by the first line
abbrev pub IsNoRow : List Sort → List ℕ → Type 0
IsNoRow sorts rest = (row : List Datum) (after : List ℕ) → IsRow sorts row → rest ≡ row_text sorts row
    ++ after → ⊥

-- The text isn't too long and begins with the header of these inputs; all lines behind it and before this
-- one, counted from
-- 1, are rows of their types, and this line begins the rest.
pub record StandsAt (types : List Enum) (inputs : List Variable) (text : List ℕ) (line : ℕ)
    (rest : List ℕ) : Type 0 where
  pub short : is_too_long text ≡ false
  pub rows : List (List Datum)
  pub each : All (IsRow (sorts_of types inputs)) rows
  pub before : text ≡ header_text inputs ++ (flat_map (row_text (sorts_of types inputs)) rows ++ rest)
  pub number : line ≡ length rows + 2
  pub some : 0 < length rest

-- the text is refused so: the first that is true of it, in the order of these lines and, behind the header,
-- of the text's
abbrev pub IsRefused : List Enum → List Variable → List ℕ → TabError → Type 0
IsRefused types inputs text TooLong = is_too_long text ≡ true
IsRefused types inputs text BadHeader =
    (is_too_long text ≡ false) × ((body : List ℕ) → text ≡ header_text inputs ++ body → ⊥)
IsRefused types inputs text (BadRow line) = (rest : List ℕ) × StandsAt types inputs text line rest
    × (is_bad_row (length inputs) rest ≡ true)
IsRefused types inputs text (BadValue line) = (rest : List ℕ) × StandsAt types inputs text line rest
    × (is_bad_row (length inputs) rest ≡ false) × IsNoRow (sorts_of types inputs) rest
IsRefused types inputs text OutOfMemory = ⊥

-- the answer is this one, unless memory ran out
abbrev pub Answers : Result InputsView TabError → Result InputsView TabError → Type 0
Answers answer this = (answer ≡ this) ⊎ (answer ≡ Err OutOfMemory)
