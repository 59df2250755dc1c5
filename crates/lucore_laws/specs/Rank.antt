-- What is asked of rows of reads, and what is reported where they have no order of ranks. The order and the
-- chains are those of flat programs.
use Rattle.std.specs.Prelude.{◌≡◌, ℕ, ◌<◌, List, length, All}
use Rattle.luflow.specs.Rank.{row, Chain}

-- all reads are places
abbrev pub AreClosed : List (List ℕ) → Type 0
AreClosed rows = (x : ℕ) → All (λ y. y < length rows) (row rows x)

-- the least place that reads itself through a chain
pub record IsLeastOnCycle (rows : List (List ℕ)) (x : ℕ) : Type 0 where
  pub cycle : Chain rows x x
  pub least : (y : ℕ) → y < x → ¬ Chain rows y y
