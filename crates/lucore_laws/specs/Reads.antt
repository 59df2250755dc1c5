-- What the occurrences of a program read at the same instant, said on its source.
use Rattle.std.specs.Prelude.{ℕ, suc, List, [], ◌∷◌, ◌++◌, Option, Some, None, slice_get, Contains}
use Rattle.lutree.specs.declared.expr.Prefix.TheVariants.{Data as Data1, Pre}
use Rattle.lutree.specs.declared.expr.Infix.TheVariants.{Data as Data2, Arrow, FollowedBy}
use Rattle.lutree.specs.declared.expr.Pattern.{Pattern}
use Rattle.lutree.specs.declared.expr.Condition.{Condition}
use Rattle.lutree.specs.Tree.{Tree, Trees, DeclarationTree, EquationTree, NodeTree, ProgramTree}
use Rattle.lutree.specs.Tree as tree
use Rattle.lusource.specs.Names.{clock_of, name_at, output_name}
use Rattle.lustat_rules.specs.Scope.{node_called}
use Rattle.lusource.specs.Source.{condition, first_pattern, next_patterns}

-- Where an expression stands in the text of a node: the number of the equation, and the numbers of the
-- operands on the way to it from the right side's root, the last one first.
pub record Position : Type 0 where
  pub equation : ℕ
  pub operands : List ℕ

-- which of the instances of a node: where the calls on the way to it from the main node stand, the last call
-- first
abbrev pub Path : Type 0
Path = List Position

-- a variable of an instance, or an operator or a constant there
pub data Occurrence : Type 0 where
  variable : Path → List ℕ → Occurrence
  operator : Path → Position → Occurrence

-- An instance of a node: which one it is, the node's name, the variable whose truth its base clock is, and
-- its arguments. The main node's instance has neither, since its base clock is always true and its inputs
-- come from outside.
pub record Instance : Type 0 where
  pub path : Path
  pub node : List ℕ
  pub clock : List Occurrence
  pub arguments : List Occurrence

-- what stands in the text of an instance: an occurrence with all that it reads at the same instant, or a call
pub data Item : Type 0 where
  reading : Occurrence → List Occurrence → Item
  calling : Instance → Item

-- operand n of the expression at a position
abbrev pub operand : Position → ℕ → Position
operand at n = record { equation = at.equation; operands = n ∷ at.operands }

-- argument r, if there is one
abbrev pub if_there : Option Occurrence → List Occurrence
if_there None = []
if_there (Some x) = x ∷ []

-- In an instance of a node:
module _ (program : ProgramTree) (here : Instance) (node : NodeTree) where
  -- the variable whose truth a clock is; that of the base clock is the call's
  abbrev pub clocked : Option Condition → List Occurrence
  clocked None = here.clock
  clocked (Some c) = variable here.path c.variable ∷ []

  -- what is read where an expression is: the variable, output j of the called instance, or the operator or
  -- constant itself
  abbrev pub output : Tree → Position → ℕ → Occurrence
  output (tree.variable x) at j = variable here.path x
  output (tree.call f all) at j = variable (at ∷ here.path) (output_name program f j)
  output e at j = operator here.path at

  abbrev pub value : Tree → Position → Occurrence
  value e at = output e at 0

  -- the arguments of a call, or the branches of a merge, from the one of number r on
  abbrev pub values : Trees → Position → ℕ → List Occurrence
  values tree.none at r = []
  values (tree.more a all) at r = value a (operand at r) ∷ values all at (suc r)

  abbrev mutual
    -- What stands in an expression on a clock that its place demands. All read the variable of their clock.
    -- Beside it `pre` reads nothing, `current` its variable, and every other operator its operands; `a fby b`
    -- is `a -> pre b`.
    pub items : Tree → Option Condition → Position → List Item
    items (tree.number n) k at = reading (operator here.path at) (clocked k) ∷ []
    items (tree.truth b) k at = reading (operator here.path at) (clocked k) ∷ []
    items (tree.label x) k at = reading (operator here.path at) (clocked k) ∷ []
    items (tree.variable x) k at = []
    items (tree.unary (Data1 op) a) k at =
        reading (operator here.path at) (value a (operand at 0) ∷ clocked k) ∷ items a k (operand at 0)
    items (tree.unary Pre a) k at = reading (operator here.path at) (clocked k) ∷ items a k (operand at 0)
    items (tree.binary (Data2 op) a b) k at =
        reading (operator here.path at) (value a (operand at 0) ∷ value b (operand at 1) ∷ clocked k)
        ∷ items a k (operand at 0) ++ items b k (operand at 1)
    items (tree.binary Arrow a b) k at =
        reading (operator here.path at) (value a (operand at 0) ∷ value b (operand at 1) ∷ clocked k)
        ∷ items a k (operand at 0) ++ items b k (operand at 1)
    items (tree.binary FollowedBy a b) k at =
        reading (operator here.path at) (value a (operand at 0) ∷ operator here.path (operand at 1)
        ∷ clocked k)
        ∷ reading (operator here.path (operand at 1)) (clocked k)
        ∷ items a k (operand at 0) ++ items b k (operand (operand at 1) 0)
    items (tree.choice c a b) k at =
        reading (operator here.path at) (value c (operand at 0) ∷ value a (operand at 1)
        ∷ value b (operand at 2) ∷ clocked k)
        ∷ items c k (operand at 0) ++ (items a k (operand at 1) ++ items b k (operand at 2))
    items (tree.when a c) k at =
        reading (operator here.path at) (value a (operand at 0) ∷ clocked (Some c))
        ∷ items a (clock_of node c.variable) (operand at 0)
    items (tree.current x) k at = reading (operator here.path at) (variable here.path x ∷ clocked k) ∷ []
    items (tree.merge c ps all) k at =
        reading (operator here.path at) (variable here.path c ∷ (values all at 0 ++ clocked k))
        ∷ branch_items c ps all at 0
    items (tree.call f all) k at =
        calling (record { path = at ∷ here.path; node = f; clock = clocked k; arguments = values all at 0 })
        ∷ items_in all k at 0

    -- the same of the arguments of a call, from the one of number r on
    pub items_in : Trees → Option Condition → Position → ℕ → List Item
    items_in tree.none k at r = []
    items_in (tree.more a all) k at r = items a k (operand at r) ++ items_in all k at (suc r)

    -- the same of the branches of a merge
    pub branch_items : List ℕ → List Pattern → Trees → Position → ℕ → List Item
    branch_items c ps tree.none at r = []
    branch_items c ps (tree.more a all) at r =
        items a (condition c (first_pattern ps)) (operand at r) ++ branch_items c (next_patterns ps) all at
        (suc r)

  -- the clock that an equation's place demands: that of its first variable
  abbrev pub left_clock : EquationTree → Option Condition
  left_clock q = clock_of node (name_at q.left 0)

  -- a variable reads what its equation says, from the j-th on the left side on
  abbrev pub left_items : Tree → Position → ℕ → List (List ℕ) → List Item
  left_items right at j [] = []
  left_items right at j (x ∷ xs) =
      reading (variable here.path x) (output right at j ∷ clocked (clock_of node x))
      ∷ left_items right at (suc j) xs

  -- the equations from the one of number n on
  abbrev pub equation_items : List EquationTree → ℕ → List Item
  equation_items [] n = []
  equation_items (q ∷ qs) n =
      left_items q.right (record { equation = n; operands = [] }) 0 q.left
      ++ (items q.right (left_clock q) (record { equation = n; operands = [] }) ++ equation_items qs (suc n))

  -- an input reads its argument, from the one of number r on
  abbrev pub input_items : List DeclarationTree → ℕ → List Item
  input_items [] r = []
  input_items (d ∷ ds) r =
      reading (variable here.path d.name) (if_there (slice_get here.arguments r) ++ here.clock)
      ∷ input_items ds (suc r)

  abbrev pub node_items : List Item
  node_items = input_items node.inputs 0 ++ equation_items node.equations 0

abbrev pub items_in_node : ProgramTree → Instance → Option NodeTree → List Item
items_in_node program here None = []
items_in_node program here (Some node) = node_items program here node

-- all that stands in the text of an instance
abbrev pub items_of : ProgramTree → Instance → List Item
items_of program here = items_in_node program here (node_called program here.node)

abbrev pub main_instance : List ℕ → Instance
main_instance main = record { path = []; node = main; clock = []; arguments = [] }

-- the main node's instance, and those of all calls in instances
pub data IsInstance (program : ProgramTree) (main : List ℕ) : Instance → Type 0 where
  first : IsInstance program main (main_instance main)
  called : (a b : Instance) → IsInstance program main a → Contains (items_of program a) (calling b)
      → IsInstance program main b

-- an occurrence reads another at the same instant
pub record Reads (program : ProgramTree) (main : List ℕ) (x y : Occurrence) : Type 0 where
  pub instance : Instance
  pub is_instance : IsInstance program main instance
  pub all : List Occurrence
  pub there : Contains (items_of program instance) (reading x all)
  pub among : Contains all y

-- a chain of reads from one occurrence to another
pub data Leads (program : ProgramTree) (main : List ℕ) : Occurrence → Occurrence → Type 0 where
  one : (x y : Occurrence) → Reads program main x y → Leads program main x y
  more : (x y z : Occurrence) → Leads program main x y → Reads program main y z → Leads program main x z
