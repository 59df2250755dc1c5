-- A search in depth, between two steps.
use Rattle.std.specs.Prelude.{◌≡◌, ◌≢◌, ◌<◌, ◌+◌, ℕ, Bool, false, not, List, Some, length, count_by}
use Rattle.std.specs.Prelude.{slice_get, slice_index, slice_index_or, take, IsTrue, All, Contains}
use Rattle.lubase.specs.declared.search.Visit.{Visit}
use Rattle.lubase.specs.Graph.{Graph, row_of, PointsTo, Reaches}

-- a vertex has a mark
abbrev pub Has : List Bool → ℕ → Type 0
Has marks v = IsTrue (slice_index_or marks v false)

-- a vertex is without a mark
abbrev pub Lacks : List Bool → ℕ → Type 0
Lacks marks v = slice_index_or marks v false ≡ false

-- what stands at a place of a row is no vertex, or has a mark
abbrev pub IsPassed : List Bool → List ℕ → ℕ → Type 0
IsPassed marks row k = slice_index row k < length marks → Has marks (slice_index row k)

-- what is true of each element
abbrev pub Each : {X : Type 0} → (X → Type 0) → List X → Type 0
Each {X} P path = (i : ℕ) (x : X) → slice_get path i ≡ Some x → P x

-- what is true of each element and of those behind it
abbrev pub EachPair : {X : Type 0} → (X → X → Type 0) → List X → Type 0
EachPair {X} R path = (i j : ℕ) (x y : X) → i < j → slice_get path i ≡ Some x → slice_get path j ≡ Some y
    → R x y

-- the vertices in order are those that are placed, and each stands behind those that it points to
pub record IsPlacing (g : Graph) (placed : List Bool) (order : List ℕ) : Type 0 where
  pub listed : (v : ℕ) → Has placed v → Contains order v
  pub only : All (Has placed) order
  pub once : (i j : ℕ) → i < j → j < length order → slice_index order i ≢ slice_index order j
  pub behind : (i w : ℕ) → i < length order → PointsTo g (slice_index order i) w → Contains (take i order) w

-- the vertices on the way are those that are entered and not placed, and each reaches those behind it
pub record IsWay (g : Graph) (entered placed : List Bool) (path : List Visit) : Type 0 where
  pub listed : (v : ℕ) → Has entered v → Lacks placed v → (i : ℕ) × (x : Visit) × (slice_get path i ≡ Some x)
      × (x.vertex ≡ v)
  pub marked : Each (λ x. Has entered x.vertex) path
  pub unplaced : Each (λ x. Lacks placed x.vertex) path
  pub inside : Each (λ x. x.vertex < length g) path
  pub apart : EachPair (λ x y. x.vertex ≢ y.vertex) path
  pub reaches : EachPair (λ x y. Reaches g x.vertex y.vertex) path
  pub passed : Each (λ x. (k : ℕ) → k < x.next → k < length (row_of g x.vertex)
      → IsPassed placed (row_of g x.vertex) k) path

-- all of a search
pub record IsSearch (g : Graph) (entered placed : List Bool) (path : List Visit)
    (order : List ℕ) : Type 0 where
  pub entered_long : length entered ≡ length g
  pub placed_long : length placed ≡ length g
  pub sooner : (v : ℕ) → Has placed v → Has entered v
  pub placing : IsPlacing g placed order
  pub way : IsWay g entered placed path

-- how many steps are left at most
abbrev pub steps_left : List Bool → List Bool → ℕ
steps_left entered placed = count_by not entered + count_by not placed

-- no vertex loses its mark
abbrev pub Keeps : List Bool → List Bool → Type 0
Keeps old new = (v : ℕ) → Has old v → Has new v
