-- What a site that has ended leaves of the outputs.
use Rattle.std.specs.Prelude.{◌≡◌, ◌⊎◌, ℕ, List, [], length, Option, Some, None, slice_get}
use Rattle.lublock.specs.Shown.{Column}

-- of columns each is as it was, or empty now
abbrev pub AreLess : List Column → List Column → Type 0
AreLess old new = (v : ℕ) (x : Column) → slice_get new v ≡ Some x → (slice_get old v ≡ Some x)
    ⊎ (x.items ≡ [])

-- column v was taken out
pub record IsTakenOut (old : List Column) (v : ℕ) (column : Column) (new : List Column) : Type 0 where
  pub there : slice_get old v ≡ Some column
  pub less : AreLess old new

-- the row of an output: its column, with so many statuses, or an empty one elsewhere
abbrev pub IsOutputRow : List Column → ℕ → Option ℕ → Column → Type 0
IsOutputRow columns instants None row = row.items ≡ []
IsOutputRow columns instants (Some v) row = (slice_get columns v ≡ Some row) × (length row.items ≡ instants)

-- the row of an output, from columns that are these or empty
abbrev pub IsRowIn : List Column → ℕ → Option ℕ → Column → Type 0
IsRowIn columns instants output row = (left : List Column) × AreLess columns left
    × IsOutputRow left instants output row

-- each row is that of the output at its place
abbrev pub AreRowsIn : List Column → ℕ → List (Option ℕ) → List Column → Type 0
AreRowsIn columns instants outputs rows = (k : ℕ) (output : Option ℕ) (row : Column)
    → slice_get outputs k ≡ Some output → slice_get rows k ≡ Some row → IsRowIn columns instants output row

-- a row for each of these outputs
pub record AreOutputRows (columns : List Column) (instants : ℕ) (outputs : List (Option ℕ))
    (rows : List Column) : Type 0 where
  pub len : length rows ≡ length outputs
  pub each : AreRowsIn columns instants outputs rows
