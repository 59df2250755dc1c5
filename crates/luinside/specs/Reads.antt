-- What a data operator in the text of a node reads.
use Rattle.std.specs.Prelude.{ℕ, ◌+◌, ◌-◌, Option, Some, None, option_map, List}
use Rattle.lutree.specs.declared.expr.Prefix.TheVariants.{Data as Data1, Pre as Before}
use Rattle.lutree.specs.declared.expr.Infix.TheVariants.{Data as Data2, Arrow as Starts, FollowedBy}
use Rattle.lutree.specs.Tree.{Tree, NodeTree, ProgramTree}
use Rattle.lutree.specs.Tree as tree
use Rattle.lusource.specs.Names.{variables_of, place_of}
use Rattle.lustat_rules.specs.Scope.{node_called}
use Rattle.lucore_laws.specs.Layout.{inputs_in}
use Rattle.lucore_laws.specs.Sizes.{size_of, made_size}
use Rattle.lueval.specs.declared.faults.Reads.{Reads}
use Rattle.lueval.specs.Reads.{one, two}

-- the same places in a list that is moved to place b
abbrev pub moved_by : ℕ → Reads → Reads
moved_by b r = record { left = b + r.left; right = option_map (λ x. b + x) r.right }

-- given the sizes of all nodes
module _ (p : ProgramTree) (sizes : List ℕ) (node : NodeTree) where
  -- the place of an operand, whose flows end before place b: its own root has the last place
  abbrev pub operand_place : Tree → ℕ → ℕ
  operand_place (tree.number n) b = b - 1
  operand_place (tree.truth v) b = b - 1
  operand_place (tree.label x) b = b - 1
  operand_place (tree.variable x) b = place_of (variables_of node) x
  operand_place (tree.unary op a) b = b - 1
  operand_place (tree.binary op a c) b = b - 1
  operand_place (tree.choice c x y) b = b - 1
  operand_place (tree.when a c) b = b - 1
  operand_place (tree.current x) b = b - 1
  operand_place (tree.merge c ps all) b = b - 1
  operand_place (tree.call f all) b = (b - size_of p sizes f) + inputs_in (node_called p f)

  -- what an expression reads, if it is a data operator, whose operands' flows end before place b
  abbrev pub expression_reads : Tree → ℕ → Option Reads
  expression_reads (tree.number n) b = None
  expression_reads (tree.truth v) b = None
  expression_reads (tree.label x) b = None
  expression_reads (tree.variable x) b = None
  expression_reads (tree.unary (Data1 op) x) b = Some (one (operand_place x b))
  expression_reads (tree.unary Before x) b = None
  expression_reads (tree.binary (Data2 op) x y) b =
      Some (two (operand_place x (b - made_size p sizes y)) (operand_place y b))
  expression_reads (tree.binary Starts x y) b = None
  expression_reads (tree.binary FollowedBy x y) b = None
  expression_reads (tree.choice c x y) b = None
  expression_reads (tree.when x c) b = None
  expression_reads (tree.current x) b = None
  expression_reads (tree.merge c ps all) b = None
  expression_reads (tree.call f all) b = None
