-- What holds of orders of ranks.
use Rattle.std.specs.Prelude.{◌≡◌, ◌<◌, ◌↔◌, ℕ, true, List, length, take, Some, slice_get, slice_index}
use Rattle.std.specs.Prelude.{Contains}
use Rattle.luflow.specs.Rank.{has, row, IsRankOrder, Chain}
use Rattle.lucore_laws.specs.Rank.{AreClosed}

-- there is one order at most
abbrev pub OneOrder : Type 0
OneOrder = (rows : List (List ℕ)) (a b : List ℕ) → IsRankOrder rows a → IsRankOrder rows b → a ≡ b

-- where all reads are places, there is an order exactly where no place reads itself through a chain
abbrev pub OrderUnlessCycle : Type 0
OrderUnlessCycle = (rows : List (List ℕ)) → AreClosed rows → ((order : List ℕ) × IsRankOrder rows order)
    ↔ ((x : ℕ) → ¬ Chain rows x x)

-- what a place reads stands before it
abbrev pub ReadsFirst : Type 0
ReadsFirst =
    (rows : List (List ℕ)) (order : List ℕ) (p x y : ℕ) → IsRankOrder rows order → slice_get order p ≡ Some x
    → has (row rows x) y ≡ true → has (take p order) y ≡ true

-- the order has each place, once, and nothing else
pub record HasEachOnce (count : ℕ) (order : List ℕ) : Type 0 where
  pub each : (x : ℕ) → x < count → Contains order x
  pub only : (x : ℕ) → Contains order x → x < count
  pub once : (p q : ℕ) → p < length order → q < length order → slice_index order p ≡ slice_index order q
      → p ≡ q

abbrev pub EachOnce : Type 0
EachOnce = (rows : List (List ℕ)) (order : List ℕ) → IsRankOrder rows order → HasEachOnce (length rows) order
