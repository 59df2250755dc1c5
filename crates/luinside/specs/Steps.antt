-- One step on the way to a flow: in the list of one node.
use Rattle.std.specs.Prelude.{◌≡◌, ℕ, ◌⊎◌, List, ◌∷◌, Option, Some, None}
use Rattle.lutree.specs.Tree.{Tree, Trees, NodeTree, ProgramTree, view}
use Rattle.lutree.specs.Tree as tree
use Rattle.lustat_rules.specs.Naming.{node_place}
use Rattle.luinside.specs.declared.passing.Own.{Own}
use Rattle.lueval.specs.declared.faults.Reads.{Reads}
use Rattle.luinside.specs.declared.step.Inside.{Inside}
use Rattle.luinside.specs.declared.step.Step.{Step}
use Rattle.luinside.specs.declared.step.Step.TheVariants as steps
use Rattle.luinside.specs.Owns.{InnerAt, RootAt}
use Rattle.luinside.specs.Reads.{expression_reads}
use Rattle.luinside.specs.Standing.{VariableAt, IsNothing}

-- the node that an expression calls
abbrev pub called_place : ProgramTree → Tree → Option ℕ
called_place p (tree.number n) = None
called_place p (tree.truth b) = None
called_place p (tree.label x) = None
called_place p (tree.variable x) = None
called_place p (tree.unary op a) = None
called_place p (tree.binary op a b) = None
called_place p (tree.choice c a b) = None
called_place p (tree.when a c) = None
called_place p (tree.current x) = None
called_place p (tree.merge c ps all) = None
called_place p (tree.call f all) = node_place p f

-- the instance of a call, if an expression is a call of a node
abbrev pub IsInside : ProgramTree → Own → Option Inside → Type 0
IsInside p x None = called_place p (view x.expression.now) ≡ None
IsInside p x (Some inside) =
    (called_place p (view x.expression.now) ≡ Some inside.node) × (inside.at ≡ x.here.place)
    × (inside.number ≡ x.here.calls)

-- given the sizes of all nodes
module _ (p : ProgramTree) (sizes : List ℕ) where
  module _ (node : NodeTree) (target : ℕ) where
    -- the target is the flow of a variable of the node, with this right side at these numbers, or an inner
    -- flow, of this part
    abbrev pub IsRoot : List ℕ → Tree → ℕ → Type 0
    IsRoot numbers e b = (name : List ℕ) × VariableAt node target name × RootAt p sizes node name numbers e b

    -- the operator at these numbers
    pub record IsOperator (numbers : List ℕ) (reads : Reads) : Type 0 where
      pub expression : Tree
      pub behind : ℕ
      pub before : ℕ
      pub reads_are : expression_reads p sizes node expression behind ≡ Some reads
      pub stands : IsRoot numbers expression behind
          ⊎ InnerAt p sizes node target numbers expression behind before

    -- the call of a node
    pub record IsCall (inside : Inside) : Type 0 where
      pub numbers : List ℕ
      pub expression : Tree
      pub inner : InnerAt p sizes node target numbers expression inside.at inside.number
      pub called : called_place p expression ≡ Some inside.node

    -- neither of them
    pub record IsOther (numbers : List ℕ) (e : Tree) (b c : ℕ) : Type 0 where
      pub reads_nothing : expression_reads p sizes node e b ≡ None
      pub stands : IsRoot numbers e b
          ⊎ (InnerAt p sizes node target numbers e b c × (called_place p e ≡ None))

    abbrev pub StepIs : Step → Type 0
    StepIs steps.Nothing =
        IsNothing p sizes node target
        ⊎ ((numbers : List ℕ) × (e : Tree) × (b : ℕ) × (c : ℕ) × IsOther numbers e b c)
    StepIs (steps.Operator x) = IsOperator (x.equation ∷ x.part) x.reads
    StepIs (steps.Inside inside) = IsCall inside

  -- a step in the list of a node, if there is one
  abbrev pub Steps : Option NodeTree → ℕ → Step → Type 0
  Steps None target step = step ≡ steps.Nothing
  Steps (Some node) target step = StepIs node target step
