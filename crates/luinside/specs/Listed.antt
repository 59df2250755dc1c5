-- What the list of a program's instances is.
use Rattle.std.specs.Prelude.{◌≡◌, ◌<◌, ◌≤◌, ◌⊎◌, ℕ, ◌+◌, List, [], ◌∷◌, length, map, Some, slice_get, All}
use Rattle.std.specs.Prelude.{Contains}
use Rattle.lubase.specs.Limits.{most_flows}
use Rattle.lutree.specs.Tree.{NodeTree, ProgramTree}
use Rattle.luflow.specs.Program.{FlatView}
use Rattle.lusource.specs.Names.{variables_of, place_of, AreDistinct}
use Rattle.lusource.specs.Source.{Path}
use Rattle.lusource.specs.Instances.{instance_at}
use Rattle.lusource.specs.Agreement.{IsFlowOf}
use Rattle.lucore.specs.Result.{IsFlatOf}
use Rattle.luinside.specs.declared.listing.Instance.{Instance}

-- There is an instance of this node at this path, and the flow of each of its variables stands as far behind
-- the start as the variable stands among those of its node.
pub record IsInstance (p : ProgramTree) (main : List ℕ) (flat : FlatView) (x : Instance) : Type 0 where
  pub node : NodeTree
  pub is_node : slice_get p.nodes x.node ≡ Some node
  pub at_path : instance_at p main x.path ≡ Some node
  pub flows : (y : List ℕ) → Contains (variables_of node) y
      → IsFlowOf p main flat x.path y (x.start + place_of (variables_of node) y)

-- there is room for all its variables in a flat program
abbrev pub IsLow : ProgramTree → Instance → Type 0
IsLow p x = (node : NodeTree) → slice_get p.nodes x.node ≡ Some node
    → x.start + length (variables_of node) ≤ most_flows

abbrev pub paths : List Instance → List Path
paths = map (λ (x : Instance). x.path)

-- a path comes before those that go on from it, and before those whose call has a greater number where they
-- part
abbrev pub ComesBefore : Path → Path → Type 0
ComesBefore a [] = ⊥
ComesBefore [] (j ∷ b) = Unit {0}
ComesBefore (i ∷ a) (j ∷ b) = (i < j) ⊎ ((i ≡ j) × ComesBefore a b)

-- all instances of a program, each once and in order
pub record AreInstances (p : ProgramTree) (main : List ℕ) (flat : FlatView)
    (list : List Instance) : Type 0 where
  pub each : All (IsInstance p main flat) list
  pub all : (path : Path) (node : NodeTree) → instance_at p main path ≡ Some node
      → Contains (paths list) path
  pub once : AreDistinct (paths list)
  pub ordered : (i j : ℕ) (a b : Path) → i < j → slice_get (paths list) i ≡ Some a
      → slice_get (paths list) j ≡ Some b → ComesBefore a b

-- so it is with every flat program of the source
abbrev pub ListsInstances : ProgramTree → List ℕ → List Instance → Type 0
ListsInstances p main list = (flat : FlatView) → IsFlatOf p main flat → AreInstances p main flat list
