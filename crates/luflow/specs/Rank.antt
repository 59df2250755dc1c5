-- The order of ranks, and chains of reads.
use Rattle.std.specs.Prelude.{◌≡◌, ℕ, ◌<◌, ◌==◌, Bool, true, false, not, ◌&&◌, List, [], length, take, map}
use Rattle.std.specs.Prelude.{Some, slice_get, unwrap_or}
use Rattle.std.specs.List.{list_any, list_all}
use Rattle.luflow.specs.Program.{FlatView, reads}

-- what each flow reads at the same instant, by place
abbrev pub reads_of : FlatView → List (List ℕ)
reads_of flat = map reads flat.flows

abbrev pub has : List ℕ → ℕ → Bool
has order x = list_any (λ y. y == x) order

abbrev pub row : List (List ℕ) → ℕ → List ℕ
row rows x = unwrap_or (slice_get rows x) []

-- a place that has no rank, and all that it reads has one
abbrev pub is_ready : List (List ℕ) → List ℕ → ℕ → Bool
is_ready rows order x = not (has order x) && list_all (λ y. has order y) (row rows x)

-- the next rank goes to the least place that is ready
pub record IsNext (rows : List (List ℕ)) (order : List ℕ) (x : ℕ) : Type 0 where
  pub inside : x < length rows
  pub ready : is_ready rows order x ≡ true
  pub least : (y : ℕ) → y < x → is_ready rows order y ≡ false

-- all places, each the next one after those before it
pub record IsRankOrder (rows : List (List ℕ)) (order : List ℕ) : Type 0 where
  pub count : length order ≡ length rows
  pub each : (p x : ℕ) → slice_get order p ≡ Some x → IsNext rows (take p order) x

-- a chain of reads from one place to another; where every cycle passes a `pre`, none leads back
pub data Chain (rows : List (List ℕ)) : ℕ → ℕ → Type 0 where
  one : (x y : ℕ) → has (row rows x) y ≡ true → Chain rows x y
  more : (x y z : ℕ) → Chain rows x y → has (row rows y) z ≡ true → Chain rows x z
