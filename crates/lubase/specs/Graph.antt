-- Directed graphs. The vertices are the places of a list, and each place has a list of the places that it
-- points to.
use Rattle.std.specs.Prelude.{◌≡◌, ◌<◌, ◌⊎◌, ◌↔◌, ℕ, Bool, false, IsTrue, List, [], Option, Some, None}
use Rattle.std.specs.Prelude.{length, slice_get, slice_index, slice_index_or, All, Contains, Vec}
use Rattle.std.specs.Global.{Global}

abbrev pub Graph : Type 0
Graph = List (Vec ℕ Global)

abbrev pub items_of : Option (Vec ℕ Global) → List ℕ
items_of None = []
items_of (Some row) = row.items

-- what stands in a vertex's list
abbrev pub row_of : Graph → ℕ → List ℕ
row_of g v = items_of (slice_get g v)

-- an edge: v's list has the vertex w; what isn't a vertex is no end of an edge
pub record PointsTo (g : Graph) (v w : ℕ) : Type 0 where
  pub listed : Contains (row_of g v) w
  pub inside : w < length g

-- a way of one edge or more
pub data Reaches (g : Graph) : ℕ → ℕ → Type 0 where
  one : (v w : ℕ) → PointsTo g v w → Reaches g v w
  more : (u v w : ℕ) → Reaches g u v → PointsTo g v w → Reaches g u w

-- a vertex that reaches itself
abbrev pub IsCycle : Graph → ℕ → Type 0
IsCycle g v = Reaches g v v

-- all vertices, each once, and each behind those that it points to
pub record IsOrder (g : Graph) (order : List ℕ) : Type 0 where
  pub all : (v : ℕ) → v < length g → Contains order v
  pub inside : All (λ v. v < length g) order
  pub once : (i j : ℕ) → i < length order → j < length order → slice_index order i ≡ slice_index order j
      → i ≡ j
  pub behind : (i j : ℕ) → i < length order → j < length order → PointsTo g (slice_index order i)
      (slice_index order j) → j < i

-- where there is an order, no vertex reaches itself
abbrev pub OrderExcludesCycle : Type 0
OrderExcludesCycle = (g : Graph) (order : List ℕ) (v : ℕ) → IsOrder g order → IsCycle g v → ⊥

-- there is an order, or some vertex reaches itself
abbrev pub OrderOrCycle : Type 0
OrderOrCycle = (g : Graph) → ((order : List ℕ) × IsOrder g order) ⊎ ((v : ℕ) × (v < length g) × IsCycle g v)

-- marks of those vertices that reach themselves, and of no others
abbrev pub MarksCycles : Graph → List Bool → Type 0
MarksCycles g marks = (v : ℕ) → v < length g → IsTrue (slice_index_or marks v false) ↔ IsCycle g v
