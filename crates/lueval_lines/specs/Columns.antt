-- The columns of the main variables: which are kept, and what they hold of a solution.
use Rattle.std.specs.Prelude.{◌≡◌, ℕ, ◌<◌, ◌≤◌, Bool, true, false, List, [], ◌∷◌, ◌++◌, map, length}
use Rattle.std.specs.Prelude.{All as Each, Contains, Some, slice_get, slice_index, slice_set, vec_capacity}
use Rattle.std.specs.Prelude.{Vec}
use Rattle.std.specs.declared.alloc.Global.{Global}
use Rattle.luflow.specs.declared.data.Status.{Status}
use Rattle.luflow.specs.declared.variable.Variable.{Variable}
use Rattle.luflow.specs.declared.variable.Role.{Role}
use Rattle.luflow.specs.declared.variable.Role.TheVariants.{Input, Output, Local}
use Rattle.luflow.specs.Program.{InputsView}
use Rattle.luflow.specs.Streams.{Known, Streams}
use Rattle.luflow.specs.Messages.{marks}
use Rattle.lueval_lines.specs.declared.columns.Wanted.{Wanted}
use Rattle.lueval_lines.specs.declared.columns.Wanted.TheVariants.{All, Outputs}
use Rattle.lueval_lines.specs.declared.columns.Notes.{Notes}
use Rattle.lueval_lines.specs.Frames.{IsShown}

-- the column of one main variable
abbrev pub Column : Type 0
Column = Vec Status Global

abbrev pub items_of : Column → List Status
items_of column = column.items

abbrev pub lists_of : List Column → List (List Status)
lists_of columns = map items_of columns

-- whether the stream of a variable of this role is kept
abbrev pub is_wanted : Wanted → Role → Bool
is_wanted All Input = true
is_wanted All Output = true
is_wanted All Local = true
is_wanted Outputs Input = false
is_wanted Outputs Output = true
is_wanted Outputs Local = false

-- numbers of variables below this, in order
pub record AreKept (count : ℕ) (kept : List ℕ) : Type 0 where
  pub inside : Each (λ v. v < count) kept
  pub ascending : (j k : ℕ) → j < k → k < length kept → slice_index kept j < slice_index kept k

-- the stream of the variable of this number is wanted
pub record IsWantedAt (wanted : Wanted) (variables : List Variable) (v : ℕ) : Type 0 where
  pub variable : Variable
  pub there : slice_get variables v ≡ Some variable
  pub role : is_wanted wanted variable.role ≡ true

-- no number of another variable is among them
abbrev pub AreOnlyWanted : Wanted → List Variable → List ℕ → Type 0
AreOnlyWanted wanted variables kept = Each (λ v. IsWantedAt wanted variables v) kept

-- the number of each variable whose stream is wanted is among them
abbrev pub AreAllKept : Wanted → List Variable → List ℕ → Type 0
AreAllKept wanted variables kept = (v : ℕ) (x : Variable) → slice_get variables v ≡ Some x
    → is_wanted wanted x.role ≡ true → Contains kept v

-- a column of no status, with room for all
pub record IsEmpty (instants : ℕ) (column : Column) : Type 0 where
  pub empty : column.items ≡ []
  pub room : instants ≤ vec_capacity column

pub record AreEmpty (count : ℕ) (kept : List ℕ) (instants : ℕ) (columns : List Column) : Type 0 where
  pub len : length columns ≡ count
  pub each : (k : ℕ) (column : Column) → k < length kept
      → slice_get columns (slice_index kept k) ≡ Some column → IsEmpty instants column

pub record AreNew (variables : List Variable) (instants : ℕ) (notes : Notes) : Type 0 where
  pub kept : AreKept (length variables) notes.kept.items
  pub columns : AreEmpty (length variables) notes.kept.items instants notes.columns.items

-- the first t statuses of main variable v, with room for all
pub record IsColumn (inputs : InputsView) (σ : Streams) (t v : ℕ) (column : Column) : Type 0 where
  pub known : map Known column.items ≡ marks (σ v) t
  pub room : inputs.instants ≤ vec_capacity column

-- the columns of those that are kept
abbrev pub AreColumns : InputsView → Streams → List ℕ → List Column → ℕ → Type 0
AreColumns inputs σ kept columns t = (k : ℕ) (column : Column) → k < length kept
    → slice_get columns (slice_index kept k) ≡ Some column → IsColumn inputs σ t (slice_index kept k) column

-- column v, that was x, has one status more
pub record IsLonger (columns : List Column) (v : ℕ) (x : Column) (status : Status)
    (columns' : List Column) : Type 0 where
  pub row : Column
  pub is : columns' ≡ slice_set columns v row
  pub items : row.items ≡ x.items ++ status ∷ []
  pub capacity : vec_capacity row ≡ vec_capacity x

-- every flow is shown as it is at t
abbrev pub AreShown : Streams → List Status → ℕ → Type 0
AreShown σ shown t = (i : ℕ) → i < length shown → IsShown σ shown t i
