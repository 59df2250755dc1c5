-- The parts of an expression.
use Rattle.std.specs.Prelude.{ℕ, zero, suc, ◌+◌, List, [], ◌∷◌, map, take, Option, Some, slice_get}
use Rattle.std.specs.Prelude.{option_and_then}
use Rattle.lutree.specs.declared.expr.Pattern.{Pattern}
use Rattle.lutree.specs.declared.expr.Condition.{Condition}
use Rattle.lutree.specs.Tree.{Tree, Trees, list_of, EquationTree, NodeTree}
use Rattle.lutree.specs.Tree as tree
use Rattle.lusource.specs.Names.{clock_of, name_at}
use Rattle.lusource.specs.Source.{condition, first_pattern, next_patterns, calls}

-- the operands of an expression, in order of text; a merge has its branches, and a call its arguments
abbrev pub operands : Tree → List Tree
operands (tree.number n) = []
operands (tree.truth b) = []
operands (tree.label x) = []
operands (tree.variable x) = []
operands (tree.unary op a) = a ∷ []
operands (tree.binary op a b) = a ∷ b ∷ []
operands (tree.choice c a b) = c ∷ a ∷ b ∷ []
operands (tree.when a c) = a ∷ []
operands (tree.current x) = []
operands (tree.merge c ps all) = list_of all
operands (tree.call f all) = list_of all

-- pattern number n of a merge
abbrev pub pattern_at : List Pattern → ℕ → Pattern
pattern_at ps zero = first_pattern ps
pattern_at ps (suc n) = pattern_at (next_patterns ps) n

-- the clock that the place of operand n demands, in an expression of a node on the clock k
abbrev pub operand_clock : NodeTree → Tree → Option Condition → ℕ → Option Condition
operand_clock node (tree.number m) k n = k
operand_clock node (tree.truth b) k n = k
operand_clock node (tree.label x) k n = k
operand_clock node (tree.variable x) k n = k
operand_clock node (tree.unary op a) k n = k
operand_clock node (tree.binary op a b) k n = k
operand_clock node (tree.choice c a b) k n = k
operand_clock node (tree.when a c) k n = clock_of node c.variable
operand_clock node (tree.current x) k n = k
operand_clock node (tree.merge c ps all) k n = condition c (pattern_at ps n)
operand_clock node (tree.call f all) k n = k

-- how many calls stand in some expressions
abbrev pub calls_among : List Tree → ℕ
calls_among [] = 0
calls_among (a ∷ all) = calls a + calls_among all

-- an expression where it stands in its node: the clock that its place demands, and how many calls stand
-- before it in the node
pub record Part : Type 0 where
  pub expression : Tree
  pub clock : Option Condition
  pub before : ℕ

-- operand n of a part, which is a
abbrev pub into : NodeTree → Part → ℕ → Tree → Part
into node part n a = record {
  expression = a;
  clock = operand_clock node part.expression part.clock n;
  before = part.before + calls_among (take n (operands part.expression));
}

-- what stands in a part at these numbers: each goes into the operand of its number
abbrev pub part_at : NodeTree → Part → List ℕ → Option Part
part_at node part [] = Some part
part_at node part (n ∷ rest) =
    option_and_then (λ a. part_at node (into node part n a) rest) (slice_get (operands part.expression) n)

-- the right sides of some equations
abbrev pub rights : List EquationTree → List Tree
rights = map (λ (q : EquationTree). q.right)

-- the right side of equation j of a node
abbrev pub right_side : NodeTree → ℕ → EquationTree → Part
right_side node j q = record {
  expression = q.right;
  clock = clock_of node (name_at q.left 0);
  before = calls_among (rights (take j node.equations));
}
