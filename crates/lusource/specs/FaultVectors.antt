-- Worked faults, computed on the definitions.
use Rattle.std.specs.Prelude.{ℕ, true, false, List, [], ◌∷◌, codes, Option, None}
use Rattle.lutree.specs.declared.expr.BinaryOperator.TheVariants.{Subtract, Divide}
use Rattle.lutree.specs.declared.expr.Prefix.TheVariants.{Pre}
use Rattle.lutree.specs.declared.expr.Infix.TheVariants.{Data as Data2}
use Rattle.lutree.specs.declared.expr.Condition.{Condition}
use Rattle.lutree.specs.Tree.{Tree, NodeTree, ProgramTree, program_of}
use Rattle.lutree.specs.Tree as tree
use Rattle.luflow.specs.declared.form.FaultKind.{FaultKind}
use Rattle.luflow.specs.declared.form.FaultKind.TheVariants.{Overflow, DivZero}
use Rattle.luflow.specs.Streams.{base_clock}
use Rattle.luflow.specs.Vectors.{four_samples, one_zero}
use Rattle.lusource.specs.Source.{SourceStreams}
use Rattle.lusource.specs.Faults.{Fails, IsSourceFault}
use Rattle.lusource.specs.Vectors.{sampler, three_nodes, samples, instances, int_on, where_c, reported}
use Rattle.lusource.specs.Vectors.{present, x, call_of}

-- 1 div (x - 1), where x is 1, 2, 3, 4: its divisor is zero at the first instant
abbrev pub quotient : Tree
quotient = tree.binary (Data2 Divide) (tree.number 1) (tree.binary (Data2 Subtract) x (tree.number 1))

-- an expression fails at an instant, on a clock, if no call does
abbrev pub IsFailing : Tree → Option Condition → ℕ → FaultKind → Type 0
IsFailing e k t kind = Fails three_nodes sampler (base_clock four_samples) samples instances t kind
    (λ f c i. ⊥) e k 0

pub record ExpressionFaultsAre : Type 0 where
  pub divided : IsFailing quotient None 0 DivZero
  pub not_later : ¬ IsFailing quotient None 1 DivZero
  pub by_no_overflow : ¬ IsFailing quotient None 0 Overflow
  pub on_its_clock : IsFailing quotient (where_c true) 0 DivZero
  pub on_no_other : ¬ IsFailing quotient (where_c false) 0 DivZero
  -- what reads a fault is none, but holds it; and nil is none
  pub in_operand : IsFailing (tree.unary Pre quotient) None 0 DivZero
  pub by_nil : ¬ IsFailing (tree.binary (Data2 Divide) (tree.number 1) (tree.unary Pre x)) None 0 DivZero
  pub in_argument : IsFailing (call_of (codes "single") quotient) None 0 DivZero

-- a node with one equation
abbrev pub lone : List ℕ → List ℕ → Tree → NodeTree
lone name left right =
    record {
      name = name;
      inputs = int_on None (codes "x") ∷ [];
      outputs = int_on None left ∷ [];
      locals = [];
      equations = record { left = left ∷ []; right = right } ∷ [];
    }

-- node divide(x: int) returns (y: int); let y = 1 div x; tel
abbrev pub divide : NodeTree
divide = lone (codes "divide") (codes "y") (tree.binary (Data2 Divide) (tree.number 1) x)

-- node main(x: int) returns (z: int); let z = divide(x); tel
abbrev pub calls_divide : ProgramTree
calls_divide = program_of (lone (codes "main") (codes "z") (call_of (codes "divide") x) ∷ divide ∷ [])

-- all variables of all instances are 1, and then 0
abbrev pub falling : SourceStreams
falling path name = reported (present 1 ∷ present 0 ∷ [])

pub record ProgramFaultsAre : Type 0 where
  -- y is at fault at the second instant, and not at the first
  pub own : IsSourceFault (program_of (divide ∷ [])) (codes "divide") one_zero falling (codes "y") 1 DivZero
  pub not_before : ¬ IsSourceFault (program_of (divide ∷ []))
      (codes "divide") one_zero falling (codes "y") 0 DivZero
  -- it is reported of the main variable in whose equation the call stands
  pub called : IsSourceFault calls_divide (codes "main") one_zero falling (codes "z") 1 DivZero
  pub of_main : ¬ IsSourceFault calls_divide (codes "main") one_zero falling (codes "y") 1 DivZero

pub record FaultVectorsLaw : Type 0 where
  pub expressions : ExpressionFaultsAre
  pub programs : ProgramFaultsAre
