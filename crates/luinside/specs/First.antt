-- What is told of the operator of the first fault.
use Rattle.std.specs.Prelude.{◌≡◌, ℕ, ◌+◌, ◌++◌, true, List, [], ◌∷◌, Option, Some, None, slice_get}
use Rattle.lutree.specs.declared.expr.Prefix.TheVariants.{Data as Data1, Pre as Before}
use Rattle.lutree.specs.declared.expr.Infix.TheVariants.{Data as Data2, Arrow as Starts, FollowedBy}
use Rattle.lutree.specs.declared.expr.Condition.{Condition}
use Rattle.lutree.specs.Tree.{Tree, EquationTree, NodeTree, ProgramTree}
use Rattle.lutree.specs.Tree as tree
use Rattle.luflow.specs.declared.data.Datum.{Datum}
use Rattle.luflow.specs.declared.data.Status.TheVariants.{Present}
use Rattle.luflow.specs.Operators.{IsFaultOf, IsFaultOfOne}
use Rattle.luflow.specs.Program.{FlatView, InputsView}
use Rattle.luflow.specs.Streams.{Known, Stream, Ticks}
use Rattle.lusource.specs.Source.{Named, SourceStreams, InstanceHolds, IsSourceSolution, ticks, calls, value}
use Rattle.lusource.specs.Instances.{instance_at}
use Rattle.lueval.specs.Whole.{HasNoFault}
use Rattle.lueval.specs.Faults.{TellsFirstFault}
use Rattle.luinside.specs.Parts.{Part, part_at, right_side}
use Rattle.lueval.specs.declared.faults.FoundFault.{FoundFault}
use Rattle.luinside.specs.declared.first.FirstFault.{FirstFault}

-- In an instance of a node, with its streams as for `value`: the expression is a data operator, on a clock that
-- its place demands and that is true then, where i calls stand before it; its operands are present, with the
-- data that are told, and at these it has no result, by the kind that is told.
module _ (program : ProgramTree) (node : NodeTree) (base : Ticks) (var : Named) (inner : ℕ → Named)
    (x : FoundFault) where
  abbrev stream : Tree → Option Condition → ℕ → Stream
  stream = value program node base var inner

  abbrev pub FailsWith : Tree → Option Condition → ℕ → Type 0
  FailsWith (tree.number n) k i = ⊥
  FailsWith (tree.truth b) k i = ⊥
  FailsWith (tree.label l) k i = ⊥
  FailsWith (tree.variable v) k i = ⊥
  FailsWith (tree.unary (Data1 op) a) k i =
      (ticks base var k x.instant ≡ Some true) × (stream a k i x.instant ≡ Known (Present x.left))
      × (x.right ≡ None) × IsFaultOfOne op x.left x.kind
  FailsWith (tree.unary Before a) k i = ⊥
  FailsWith (tree.binary (Data2 op) a b) k i =
      (ticks base var k x.instant ≡ Some true) × (stream a k i x.instant ≡ Known (Present x.left))
      × ((right : Datum) × (x.right ≡ Some right)
      × (stream b k (i + calls a) x.instant ≡ Known (Present right)) × IsFaultOf op x.left right x.kind)
  FailsWith (tree.binary Starts a b) k i = ⊥
  FailsWith (tree.binary FollowedBy a b) k i = ⊥
  FailsWith (tree.choice c a b) k i = ⊥
  FailsWith (tree.when a c) k i = ⊥
  FailsWith (tree.current v) k i = ⊥
  FailsWith (tree.merge c ps all) k i = ⊥
  FailsWith (tree.call f all) k i = ⊥

-- In a solution of the source there is, in the instance at the path, the operator at the part of the equation
-- of its node; it is at fault at the instant that is told, with the operands that are told.
pub record IsOperatorOf (program : ProgramTree) (main : List ℕ) (σ : SourceStreams) (x : FirstFault) : Type 0 where
  pub node : NodeTree
  pub is_node : slice_get program.nodes x.site.node ≡ Some node
  pub at_path : instance_at program main x.site.path ≡ Some node
  pub equation : EquationTree
  pub is_equation : slice_get node.equations x.site.equation ≡ Some equation
  pub part : Part
  pub is_part : part_at node (right_side node x.site.equation equation) x.site.part ≡ Some part
  pub base : Ticks
  pub given : List Stream
  pub holds : InstanceHolds program node base given (σ x.site.path) (λ i. σ (x.site.path ++ i ∷ []))
  pub fails : FailsWith program node base (σ x.site.path) (λ i. σ (x.site.path ++ i ∷ [])) x.found
      part.expression part.clock part.before

-- the first fault, and its operator in each solution of the source; or there is none
abbrev pub TellsFirst : ProgramTree → List ℕ → FlatView → InputsView → Option FirstFault → Type 0
TellsFirst program main flat inputs None = HasNoFault flat inputs
TellsFirst program main flat inputs (Some x) =
    TellsFirstFault flat inputs (Some x.found)
    × ((σ : SourceStreams) → IsSourceSolution program main inputs σ → IsOperatorOf program main σ x)
