-- How many flows a program's flat list has, counted without making it.
use Rattle.std.specs.Prelude.{◌≡◌, ℕ, ◌+◌, ◌-◌, List, [], ◌∷◌, length, Option, Some, None, slice_get}
use Rattle.std.specs.Prelude.{slice_index}
use Rattle.lutree.specs.declared.expr.Infix.TheVariants.{Data, Arrow, FollowedBy}
use Rattle.lutree.specs.Tree.{Tree, Trees, EquationTree, NodeTree, ProgramTree}
use Rattle.lutree.specs.Tree as tree
use Rattle.luflow.specs.Program.{FlatView, flows_of}
use Rattle.lusource.specs.Names.{variables_of}
use Rattle.lustat_rules.specs.Naming.{node_place}
use Rattle.lustat_rules.specs.Accepted.{Rule, Keeps}
use Rattle.lucore_laws.specs.Layout.{IsLaidOut}

-- the size of the node at a place
abbrev pub size_at : List ℕ → Option ℕ → ℕ
size_at sizes None = 0
size_at sizes (Some i) = slice_index sizes i

-- the size of the node called f
abbrev pub size_of : ProgramTree → List ℕ → List ℕ → ℕ
size_of p sizes f = size_at sizes (node_place p f)

-- whether the root of an expression is a flow of its own: no variable, and no call
abbrev pub root_size : Tree → ℕ
root_size (tree.variable x) = 0
root_size (tree.call f all) = 0
root_size e = 1

-- given the sizes of all nodes
module _ (p : ProgramTree) (sizes : List ℕ) where
  abbrev mutual
    -- how many flows an operand makes
    pub made_size : Tree → ℕ
    made_size (tree.number n) = 1
    made_size (tree.truth b) = 1
    made_size (tree.label x) = 1
    made_size (tree.variable x) = 0
    made_size (tree.unary op a) = made_size a + 1
    made_size (tree.binary (Data op) a b) = made_size a + made_size b + 1
    made_size (tree.binary Arrow a b) = made_size a + made_size b + 1
    made_size (tree.binary FollowedBy a b) = made_size a + made_size b + 2
    made_size (tree.choice c a b) = made_size c + made_size a + made_size b + 1
    made_size (tree.when a c) = made_size a + 1
    made_size (tree.current x) = 1
    made_size (tree.merge c ps all) = all_size all + 1
    made_size (tree.call f all) = all_size all + size_of p sizes f

    pub all_size : Trees → ℕ
    all_size tree.none = 0
    all_size (tree.more a all) = made_size a + all_size all

  -- the inner flows of some equations: all but those of the roots, which are the variables' own
  abbrev pub equations_size : List EquationTree → ℕ
  equations_size [] = 0
  equations_size (q ∷ qs) = (made_size q.right - root_size q.right) + equations_size qs

  -- the variables and the inner flows
  abbrev pub node_size : NodeTree → ℕ
  node_size node = length (variables_of node) + equations_size node.equations

-- a size for each node, by its place in the text
pub record AreSizes (p : ProgramTree) (sizes : List ℕ) : Type 0 where
  pub count : length sizes ≡ length p.nodes
  pub each : (i : ℕ) (node : NodeTree) → slice_get p.nodes i ≡ Some node
      → slice_get sizes i ≡ Some (node_size p sizes node)

-- A program none of whose nodes reaches itself by calls has sizes.
abbrev pub SizesLaw : Type 0
SizesLaw = (p : ProgramTree) (main : List ℕ) → Keeps p main Rule.recursive_node
    → (sizes : List ℕ) × AreSizes p sizes

-- The flat list has as many flows as the size of the main node says.
abbrev pub CountLaw : Type 0
CountLaw =
    (p : ProgramTree) (main : List ℕ) (flat : FlatView) (sizes : List ℕ)
    → Keeps p main Rule.recursive_node → IsLaidOut p main flat → AreSizes p sizes
    → flows_of flat ≡ size_of p sizes main
