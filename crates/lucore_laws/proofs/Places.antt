-- The place of each occurrence in the flat list.
use Rattle.std.proofs.Common.{◌≡◌, true, ℕ, zero, suc, ◌+◌, ◌<◌, ◌⊎◌, List, [], ◌∷◌, length, map, Option, Some, None}
use Rattle.std.specs.Prelude.{slice_get}
use Rattle.lutree.specs.declared.expr.Pattern.{Pattern}
use Rattle.lutree.specs.declared.expr.Condition.{Condition}
use Rattle.lutree.specs.declared.expr.Prefix.TheVariants.{Pre as Before}
use Rattle.lutree.specs.declared.expr.Infix.TheVariants.{Data as Data2, Arrow as Starts, FollowedBy}
use Rattle.lutree.specs.Tree.{Tree, Trees, EquationTree, NodeTree, ProgramTree}
use Rattle.lutree.specs.Tree as tree
use Rattle.luflow.specs.declared.form.Flow.{Flow}
use Rattle.luflow.specs.Program.{FlatView}
use Rattle.luflow.specs.Rank.{has, row, reads_of}
use Rattle.lusource.specs.Names.{clock_of, name_at}
use Rattle.lustat_rules.specs.Scope.{node_called}
use Rattle.lusource.specs.Source.{condition, first_pattern, next_patterns}
use Rattle.lucore_laws.specs.Layout.{place, behind, list_of, variable_place, variable_count, walk, walk_right, left_clock}
use Rattle.lucore_laws.proofs.Spots.{place_named}
use Rattle.lucore_laws.specs.Reads.{Position, Path, Occurrence, Instance, if_there}
use Rattle.lucore_laws.specs.Reads.Occurrence.{variable, operator}
use Rattle.lucore_laws.proofs.Graph.{Model, Solves}

-- an expression of a node, its clock and the place at which its walk begins
pub record Spot : Type 0 where
  pub tree : Tree
  pub clock : Option Condition
  pub start : ℕ

abbrev pub spot : Tree → Option Condition → ℕ → Spot
spot e k s = record { tree = e; clock = k; start = s }

abbrev nowhere : Spot
nowhere = spot (tree.number 0) None 0

module _ (p : ProgramTree) (lists : List (List Flow)) (node : NodeTree) where
  abbrev pub next : Tree → Option Condition → ℕ → ℕ
  next e k s = behind s (walk p lists node e k s)

  -- where argument n of a call stands
  abbrev pub argument_spot : Trees → Option Condition → ℕ → ℕ → Spot
  argument_spot tree.none k s n = nowhere
  argument_spot (tree.more a all) k s zero = spot a k s
  argument_spot (tree.more a all) k s (suc n) = argument_spot all k (next a k s) n

  -- where branch n of a merge stands
  abbrev pub branch_spot : List ℕ → List Pattern → Trees → ℕ → ℕ → Spot
  branch_spot c ps tree.none s n = nowhere
  branch_spot c ps (tree.more a all) s zero = spot a (condition c (first_pattern ps)) s
  branch_spot c ps (tree.more a all) s (suc n) = branch_spot c (next_patterns ps) all (next a (condition c (first_pattern ps)) s) n

  -- where a called instance stands behind the arguments
  abbrev pub arguments_end : Trees → Option Condition → ℕ → ℕ
  arguments_end tree.none k s = s
  arguments_end (tree.more a all) k s = arguments_end all k (next a k s)

  -- where operand n of an expression stands
  abbrev pub operand_spot : Tree → Option Condition → ℕ → ℕ → Spot
  operand_spot (tree.number m) k s n = nowhere
  operand_spot (tree.truth b) k s n = nowhere
  operand_spot (tree.label x) k s n = nowhere
  operand_spot (tree.variable x) k s n = nowhere
  operand_spot (tree.unary op a) k s n = spot a k s
  operand_spot (tree.binary (Data2 op) a b) k s zero = spot a k s
  operand_spot (tree.binary (Data2 op) a b) k s (suc n) = spot b k (next a k s)
  operand_spot (tree.binary Starts a b) k s zero = spot a k s
  operand_spot (tree.binary Starts a b) k s (suc n) = spot b k (next a k s)
  operand_spot (tree.binary FollowedBy a b) k s zero = spot a k s
  operand_spot (tree.binary FollowedBy a b) k s (suc n) = spot (tree.unary Before b) k (next a k s)
  operand_spot (tree.choice c a b) k s zero = spot c k s
  operand_spot (tree.choice c a b) k s (suc zero) = spot a k (next c k s)
  operand_spot (tree.choice c a b) k s (suc (suc n)) = spot b k (next a k (next c k s))
  operand_spot (tree.when a c) k s n = spot a (clock_of node c.variable) s
  operand_spot (tree.current x) k s n = nowhere
  operand_spot (tree.merge c ps all) k s n = branch_spot c ps all s n
  operand_spot (tree.call f all) k s n = argument_spot all k s n

  -- where the right side of equation n stands
  abbrev pub right_spot : List EquationTree → ℕ → ℕ → Spot
  right_spot [] s n = nowhere
  right_spot (q ∷ qs) s zero = spot q.right (left_clock p lists node q) s
  right_spot (q ∷ qs) s (suc n) = right_spot qs (s + length (walk_right p lists node q s).inner) n

  abbrev pub spot_of : List ℕ → ℕ → Spot
  spot_of [] n = right_spot node.equations (variable_count p lists node) n
  spot_of (j ∷ operands) n =
      operand_spot (spot_of operands n).tree (spot_of operands n).clock (spot_of operands n).start j

  abbrev pub left_place : Option EquationTree → ℕ
  left_place None = 0
  left_place (Some q) = variable_place p lists node (name_at q.left 0)

  abbrev pub spot_place : Spot → ℕ
  spot_place a = place a.start (walk p lists node a.tree a.clock a.start)

  -- the place of an operator: at the root of an equation it is its first variable's
  abbrev pub operator_place : List ℕ → ℕ → ℕ
  operator_place [] n = left_place (slice_get node.equations n)
  operator_place (j ∷ operands) n = spot_place (spot_of (j ∷ operands) n)

  -- the node that is called at a spot, and where its instance stands
  abbrev pub called_name : Tree → List ℕ
  called_name (tree.call f all) = f
  called_name e = []

  abbrev pub called_start : Tree → Option Condition → ℕ → ℕ
  called_start (tree.call f all) k s = arguments_end all k s
  called_start e k s = 0

-- an instance: its node, and its places in the flat list
pub record Found : Type 0 where
  pub node : List ℕ
  pub on : ℕ → ℕ

module _ (p : ProgramTree) (lists : List (List Flow)) (main : List ℕ) where
  abbrev pub found_in : Found → Position → Option NodeTree → Found
  found_in a t None = a
  found_in a t (Some node) =
      record {
        node = called_name p lists node (spot_of p lists node t.operands t.equation).tree;
        on = λ y. a.on (called_start p lists node (spot_of p lists node t.operands t.equation).tree (spot_of p lists node t.operands t.equation).clock (spot_of p lists node t.operands t.equation).start + y);
      }

  abbrev pub find : Path → Found
  find [] = record { node = main; on = λ x. x }
  find (t ∷ path) = found_in (find path) t (node_called p (find path).node)

  abbrev pub operator_named : Option NodeTree → Position → ℕ
  operator_named None t = 0
  operator_named (Some node) t = operator_place p lists node t.operands t.equation

  -- the place of an occurrence
  abbrev pub spotted : Occurrence → ℕ
  spotted (variable path x) = (find path).on (place_named (node_called p (find path).node) x)
  spotted (operator path t) = (find path).on (operator_named (node_called p (find path).node) t)

  abbrev pub IsVariable : Occurrence → Type 0
  IsVariable (variable path x) = Unit {0}
  IsVariable (operator path t) = ⊥

  abbrev pub IsOperator : Occurrence → Type 0
  IsOperator (variable path x) = ⊥
  IsOperator (operator path t) = Unit {0}

  module _ (flat : FlatView) where
    -- a place reads another
    abbrev pub FlatReads : ℕ → ℕ → Type 0
    FlatReads x y = has (row (reads_of flat) x) y ≡ true

    -- what a read of the source is in the flat list: a read, or a variable and the root of its equation, at one place
    abbrev pub Step : Occurrence → Occurrence → Type 0
    Step x y =
        FlatReads (spotted x) (spotted y) ⊎ ((spotted x ≡ spotted y) × IsVariable x × IsOperator y)

    -- an instance has a place in the flat list
    pub record Placed (a : Instance) : Type 0 where
      pub model : Model ℕ
      pub found : find a.path ≡ record { node = a.node; on = model.on }
      pub base_is : model.base ≡ map spotted a.clock
      pub given_are : (n : NodeTree) → node_called p a.node ≡ Some n → (r : ℕ) → r < length n.inputs → model.given r ≡ map spotted (if_there (slice_get a.arguments r))
      pub solves : Solves FlatReads model (list_of p lists a.node)
