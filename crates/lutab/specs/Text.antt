-- How values, rows and headers are spelled.
use Rattle.std.specs.Prelude.{◌≡◌, ◌≢◌, ℕ, zero, suc, ◌<◌, Bool, true, false, ◌||◌, nat_eq, List, [], ◌∷◌}
use Rattle.std.specs.Prelude.{◌++◌, All, codes, Some, slice_get, FitsSigned}
use Rattle.std.specs.Int.{w64}
use Rattle.std.specs.Fmt.{signed_decimal}
use Rattle.std.specs.List.{join_with_byte}
use Rattle.lutree.specs.declared.program.Kind.{Kind}
use Rattle.lutree.specs.declared.program.Kind.TheVariants.{Int as Ints, Bool as Truths, Enum as Names}
use Rattle.luflow.specs.declared.data.Datum.{Datum}
use Rattle.luflow.specs.declared.data.Datum.TheVariants.{Int, Bool as Truth, Name, Nil}
use Rattle.luflow.specs.declared.data.Status.{Status}
use Rattle.luflow.specs.declared.data.Status.TheVariants.{Absent, Present}
use Rattle.luflow.specs.declared.variable.Enum.{Enum}
use Rattle.luflow.specs.Types.{name_of, names_of}

-- the type of a column, and its names where it is an enumeration
pub record Sort : Type 0 where
  pub kind : Kind
  pub names : List (List ℕ)

-- a type of a program with these types
abbrev pub sort_of : List Enum → Kind → Sort
sort_of types kind = record { kind = kind; names = names_of types kind }

-- a value of a type with these names
abbrev pub datum_text : List (List ℕ) → Datum → List ℕ
datum_text names (Int z) = signed_decimal z
datum_text names (Truth true) = codes "true"
datum_text names (Truth false) = codes "false"
datum_text names (Name k) = name_of names k
datum_text names Nil = codes "nil"

-- what an output has at an instant
abbrev pub status_text : List (List ℕ) → Status → List ℕ
status_text names Absent = codes "-"
status_text names (Present d) = datum_text names d

-- fields with a comma between each two, and a line feed
abbrev pub line_text : List (List ℕ) → List ℕ
line_text fields = join_with_byte 44 fields ++ 10 ∷ []

-- the values of a row, each of its column's type
abbrev pub fields_text : List Sort → List Datum → List (List ℕ)
fields_text [] row = []
fields_text (s ∷ sorts) [] = []
fields_text (s ∷ sorts) (d ∷ row) = datum_text s.names d ∷ fields_text sorts row

-- a row of values
abbrev pub row_text : List Sort → List Datum → List ℕ
row_text sorts row = line_text (fields_text sorts row)

-- whether a byte ends a field
abbrev pub is_end : ℕ → Bool
is_end byte = nat_eq byte 44 || nat_eq byte 10

-- A name that a field spells: it has neither a comma nor a line feed, and none before it is spelled so. All
-- names of a program that was read are such.
pub record IsFieldName (names : List (List ℕ)) (k : ℕ) : Type 0 where
  pub name : List ℕ
  pub there : slice_get names k ≡ Some name
  pub plain : All (λ b. is_end b ≡ false) name
  pub first : (j : ℕ) (other : List ℕ) → j < k → slice_get names j ≡ Some other → other ≢ name

-- a value that a text spells: a number has 64 bits, with a sign
abbrev pub IsWord : List (List ℕ) → Datum → Type 0
IsWord names (Int z) = FitsSigned w64 z
IsWord names (Truth b) = Unit {0}
IsWord names (Name k) = IsFieldName names k
IsWord names Nil = Unit {0}

-- a value of a type: a number of 64 bits, a truth value or one of its names, and not nil
abbrev pub IsValueOf : List (List ℕ) → Kind → Datum → Type 0
IsValueOf names Ints (Int z) = FitsSigned w64 z
IsValueOf names Ints (Truth b) = ⊥
IsValueOf names Ints (Name k) = ⊥
IsValueOf names Ints Nil = ⊥
IsValueOf names Truths (Int z) = ⊥
IsValueOf names Truths (Truth b) = Unit {0}
IsValueOf names Truths (Name k) = ⊥
IsValueOf names Truths Nil = ⊥
IsValueOf names (Names place size) (Int z) = ⊥
IsValueOf names (Names place size) (Truth b) = ⊥
IsValueOf names (Names place size) (Name k) = (k < size) × IsFieldName names k
IsValueOf names (Names place size) Nil = ⊥

abbrev pub HasKind : Sort → Datum → Type 0
HasKind s d = IsValueOf s.names s.kind d

-- a value of each of these types, in order
abbrev pub IsRow : List Sort → List Datum → Type 0
IsRow [] [] = Unit {0}
IsRow [] (d ∷ ds) = ⊥
IsRow (k ∷ ks) [] = ⊥
IsRow (k ∷ ks) (d ∷ ds) = HasKind k d × IsRow ks ds

-- what stands before field i of a line
abbrev pub comma_before : ℕ → List ℕ
comma_before zero = []
comma_before (suc i) = 44 ∷ []
