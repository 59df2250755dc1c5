-- Marks in a grid, with a row of cells for each instant.
use Rattle.std.specs.Prelude.{◌≡◌, ◌≢◌, ℕ, ◌<◌, ◌+◌, ◌*◌, ◌⊎◌, nat_lt, slice_get, cond}
use Rattle.luflow.specs.Streams.{Streams, Broken}
use Rattle.test_reference.specs.declared.mark.Mark.{Mark}
use Rattle.test_reference.specs.declared.grid.Grid.{Grid}
use Rattle.test_reference.specs.AsMark.{as_mark, mark_there}

-- the streams that a grid holds: broken where it has no cell
abbrev pub held : Grid → Streams
held grid i t =
    cond (nat_lt i grid.width) (mark_there (slice_get grid.cells.items (t * grid.width + i))) Broken

-- a grid with one cell changed
pub record IsWith (old new : Grid) (i t : ℕ) (mark : Mark) : Type 0 where
  pub width : new.width ≡ old.width
  pub instants : new.instants ≡ old.instants
  pub here : held new i t ≡ as_mark mark
  pub others : (j u : ℕ) → j < old.width → (j ≢ i) ⊎ (u ≢ t) → held new j u ≡ held old j u

abbrev pub IsSized : ℕ → ℕ → Grid → Type 0
IsSized width instants grid = (grid.width ≡ width) × (grid.instants ≡ instants)
