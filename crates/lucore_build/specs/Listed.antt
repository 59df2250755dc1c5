-- The lists of a program's nodes, made one after the other.
use Rattle.std.specs.Prelude.{◌≡◌, ◌<◌, ℕ, suc, Bool, List, [], ◌∷◌, ◌++◌, map, Some, slice_get, Contains}
use Rattle.lutree.specs.Tree.{NodeTree, ProgramTree}
use Rattle.luflow.specs.declared.form.Flow.{Flow}
use Rattle.lubase.specs.Graph.{Graph}
use Rattle.lubase.specs.Search.{Has}
use Rattle.lubase.specs.declared.link.Link.{Link}
use Rattle.lubase.specs.Reach.{link}
use Rattle.lutype.specs.CallGraph.{places_called}
use Rattle.lustat_rules.specs.Scope.{node_called}
use Rattle.lucore_laws.specs.Layout.{AreLists, node_flows, node_owners, main_variables, types_of}
use Rattle.lucore_build.specs.declared.laying.FlatList.{FlatList}

-- the links of a graph's edges, from the vertex of number u on
abbrev pub links_from : ℕ → Graph → List Link
links_from u [] = []
links_from u (row ∷ rows) = map (link u) row.items ++ links_from (suc u) rows

-- what a node with a mark calls has a mark
abbrev pub AreClosed : ProgramTree → List Bool → Type 0
AreClosed p marks = (i j : ℕ) (n : NodeTree) → slice_get p.nodes i ≡ Some n → Has marks i
    → Contains (places_called p n) j → Has marks j

-- of the first k nodes of an order, those with a mark have their lists
abbrev pub AreBuilt : ProgramTree → List ℕ → List Bool → ℕ → List (List Flow) → Type 0
AreBuilt p order marks k built =
    (lists : List (List Flow)) → AreLists p lists → (m i : ℕ) → m < k → slice_get order m ≡ Some i
    → Has marks i → slice_get built i ≡ slice_get lists i

-- a node's list, and the owners of its flows, whatever the lists of the program's nodes are
abbrev pub IsNodeList : ProgramTree → NodeTree → List Flow → List ℕ → Type 0
IsNodeList p n flows owners = (lists : List (List Flow)) → AreLists p lists → (flows ≡ node_flows p lists n)
    × (owners ≡ node_owners p lists n)

-- what is laid out is the list of the main node, with its owners and variables, and the program's types
abbrev pub IsListOf : ProgramTree → List ℕ → FlatList → Type 0
IsListOf p main laid = (n : NodeTree) → node_called p main ≡ Some n
    → IsNodeList p n laid.flows.items laid.owners.items × (laid.variables.items ≡ main_variables n)
    × (laid.types.items ≡ types_of p)
