-- Calls as edges of a graph.
use Rattle.std.specs.Prelude.{◌≡◌, ◌<◌, ℕ, List, Some, All, length, slice_get, slice_index, map, Vec}
use Rattle.std.specs.Global.{Global}
use Rattle.std.specs.List.{filter_map}
use Rattle.lutree.specs.Tree.{Tree, Trees, NodeTree, ProgramTree}
use Rattle.lustat_rules.specs.Naming.{Call, calls_in, calls_in_all, called_by, node_place, Reaches}
use Rattle.lustat_rules.specs.Naming.{IsNotRecursive}
use Rattle.lubase.specs.Graph.{Graph}

-- the names that an expression calls, each after those of its arguments
abbrev pub names_called : Tree → List (List ℕ)
names_called e = map (λ (c : Call). c.node) (calls_in e)

abbrev pub all_names_called : Trees → List (List ℕ)
all_names_called all = map (λ (c : Call). c.node) (calls_in_all all)

-- the places of the nodes that a node calls, in order of text; the name of no node is passed over
abbrev pub places_called : ProgramTree → NodeTree → List ℕ
places_called p n = filter_map (node_place p) (called_by n)

-- a vertex for each node, with edges to the nodes that it calls
abbrev pub IsCallGraph : ProgramTree → Graph → Type 0
IsCallGraph p g = map (λ (row : Vec ℕ Global). row.items) g ≡ map (places_called p) p.nodes

-- places of nodes, none twice
pub record AreOnce (p : ProgramTree) (order : List ℕ) : Type 0 where
  pub inside : All (λ i. i < length p.nodes) order
  pub once : (k l : ℕ) → k < length order → l < length order → slice_index order k ≡ slice_index order l
      → k ≡ l

-- the node at a place reaches itself by calls
abbrev pub IsRecursive : ProgramTree → ℕ → Type 0
IsRecursive p i = (n : NodeTree) × (slice_get p.nodes i ≡ Some n) × Reaches p n.name n.name

-- no node before a place reaches itself by calls
abbrev pub NoneRecursiveBefore : ProgramTree → ℕ → Type 0
NoneRecursiveBefore p i = (j : ℕ) (n : NodeTree) → j < i → slice_get p.nodes j ≡ Some n → IsNotRecursive p n
