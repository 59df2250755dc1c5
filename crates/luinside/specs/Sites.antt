-- Which operator of the source is at fault.
use Rattle.std.specs.Prelude.{◌≡◌, ℕ, ◌+◌, ◌++◌, List, [], ◌∷◌, Option, Some, None, option_map, slice_get}
use Rattle.lutree.specs.declared.expr.Prefix.TheVariants.{Data as Data1, Pre as Before}
use Rattle.lutree.specs.declared.expr.Infix.TheVariants.{Data as Data2, Arrow as Starts, FollowedBy}
use Rattle.lutree.specs.declared.expr.Condition.{Condition}
use Rattle.lutree.specs.Tree.{Tree, EquationTree, NodeTree, ProgramTree}
use Rattle.lutree.specs.Tree as tree
use Rattle.luflow.specs.declared.form.FaultKind.{FaultKind}
use Rattle.luflow.specs.Program.{FlatView, InputsView}
use Rattle.luflow.specs.Streams.{Stream, Streams, Ticks}
use Rattle.luflow.specs.Solution.{IsSolution}
use Rattle.luflow.specs.Faults.{IsFault}
use Rattle.lusource.specs.Source.{Named, SourceStreams, InstanceHolds, IsSourceSolution, ticks, calls, value}
use Rattle.lustat_rules.specs.Naming.{node_place}
use Rattle.lusource.specs.Instances.{instance_at}
use Rattle.lusource.specs.Faults.{OneFails, TwoFail, There}
use Rattle.lucore_build.specs.Counted.{AreCounted}
use Rattle.lucore.specs.Result.{IsFlatOf}
use Rattle.luinside.specs.Parts.{Part, part_at, right_side}
use Rattle.lueval.specs.declared.faults.Reads.{Reads}
use Rattle.luinside.specs.declared.sites.FaultSite.{FaultSite}
use Rattle.lueval.specs.Reads.{reads_at}

-- In an instance of a node, with its streams as for `value`: the expression is a data operator that is at
-- fault at t, on a clock that its place demands, where i calls stand before it; and the flows that it reads
-- have the streams of its operands.
module _ (program : ProgramTree) (node : NodeTree) (base : Ticks) (var : Named) (inner : ℕ → Named)
    (τ : Streams) (t : ℕ) (kind : FaultKind) (r : Reads) where
  abbrev stream : Tree → Option Condition → ℕ → Stream
  stream = value program node base var inner

  -- the second operand is read at a place
  abbrev pub ReadsSecond : Stream → Type 0
  ReadsSecond v = (b : ℕ) × (r.right ≡ Some b) × (τ b ≡ v)

  abbrev pub FailsHere : Tree → Option Condition → ℕ → Type 0
  FailsHere (tree.number n) k i = ⊥
  FailsHere (tree.truth b) k i = ⊥
  FailsHere (tree.label x) k i = ⊥
  FailsHere (tree.variable x) k i = ⊥
  FailsHere (tree.unary (Data1 op) a) k i =
      OneFails op (ticks base var k) (stream a k i) t kind × (τ r.left ≡ stream a k i) × (r.right ≡ None)
  FailsHere (tree.unary Before a) k i = ⊥
  FailsHere (tree.binary (Data2 op) a b) k i =
      TwoFail op (ticks base var k) (stream a k i) (stream b k (i + calls a)) t kind
      × (τ r.left ≡ stream a k i) × ReadsSecond (stream b k (i + calls a))
  FailsHere (tree.binary Starts a b) k i = ⊥
  FailsHere (tree.binary FollowedBy a b) k i = ⊥
  FailsHere (tree.choice c a b) k i = ⊥
  FailsHere (tree.when a c) k i = ⊥
  FailsHere (tree.current x) k i = ⊥
  FailsHere (tree.merge c ps all) k i = ⊥
  FailsHere (tree.call f all) k i = ⊥

-- In a solution of the source there is, in the instance at this path, the operator at this part of this
-- equation of its node; it is at fault at t, and its operands have the streams of the flows that are read.
pub record IsFaultSite (program : ProgramTree) (main : List ℕ) (σ : SourceStreams) (τ : Streams) (t : ℕ)
    (kind : FaultKind) (site : FaultSite) : Type 0 where
  pub node : NodeTree
  pub is_node : slice_get program.nodes site.node ≡ Some node
  pub at_path : instance_at program main site.path ≡ Some node
  pub equation : EquationTree
  pub is_equation : slice_get node.equations site.equation ≡ Some equation
  pub part : Part
  pub is_part : part_at node (right_side node site.equation equation) site.part ≡ Some part
  pub base : Ticks
  pub given : List Stream
  pub holds : InstanceHolds program node base given (σ site.path) (λ i. σ (site.path ++ i ∷ []))
  pub fails : FailsHere program node base (σ site.path) (λ i. σ (site.path ++ i ∷ [])) τ t kind site.reads
      part.expression part.clock part.before

-- Wherever the flow at a place is at fault, at any table, the operator of the source is found that is.
abbrev pub TellsFaults : ProgramTree → List ℕ → ℕ → Option FaultSite → Type 0
TellsFaults program main place found =
    (flat : FlatView) → IsFlatOf program main flat
    → (inputs : InputsView) (σ : SourceStreams) (τ : Streams) → IsSourceSolution program main inputs σ
    → IsSolution flat inputs τ
    → (t : ℕ) (kind : FaultKind) → IsFault flat inputs τ place t kind
    → There found (IsFaultSite program main σ τ t kind)

-- What is found reads what the flow at the place reads, and something is found exactly where that flow is a
-- data operator.
abbrev pub ReadsAsItsFlow : ProgramTree → List ℕ → ℕ → Option FaultSite → Type 0
ReadsAsItsFlow program main place found =
    (flat : FlatView) → IsFlatOf program main flat
    → option_map (λ (site : FaultSite). site.reads) found ≡ reads_at flat.flows place

-- what is found of a flow, from the main node's instance on, if that is of the node at a place of the text
abbrev pub Follows : ProgramTree → List ℕ → ℕ → ℕ → Option FaultSite → Type 0
Follows program counts i place found =
    (main : List ℕ) → node_place program main ≡ Some i → AreCounted program counts
    → ReadsAsItsFlow program main place found × TellsFaults program main place found
