-- Where the left sides of equations begin in the row of all.
use Rattle.std.specs.Prelude.{◌≡◌, ◌<◌, ℕ, List, Some, length, take, slice_index}
use Rattle.lutree.specs.Tree.{EquationTree, NodeTree}
use Rattle.lustat_rules.specs.Scope.{IsInput, lefts_of}
use Rattle.lubase.specs.Places.{first_place}

-- the first equations have these starts
pub record AreStarts (n : ℕ) (equations : List EquationTree) (starts : List ℕ) : Type 0 where
  pub count : length starts ≡ n
  pub at : (i : ℕ) → i < n → slice_index starts i ≡ length (lefts_of (take i equations))

-- a name at a place in a row of defined variables stands at none before it, and is no input
abbrev pub IsAnew : NodeTree → List (List ℕ) → ℕ → List ℕ → Type 0
IsAnew n row place x = (first_place row x ≡ Some place) × (¬ IsInput n x)
