-- When a flat program means what its source means.
use Rattle.std.specs.Prelude.{◌≡◌, ℕ, ◌<◌, ◌≤◌, List, [], length, Some, slice_get, Contains}
use Rattle.lutree.specs.Tree.{NodeTree, ProgramTree}
use Rattle.luflow.specs.declared.variable.Variable.{Variable}
use Rattle.luflow.specs.Program.{FlatView, InputsView, IsOrdered, flows_of}
use Rattle.luflow.specs.Streams.{Streams}
use Rattle.luflow.specs.Solution.{IsSolution}
use Rattle.lusource.specs.Names.{variables_of}
use Rattle.lusource.specs.Source.{Path, SourceStreams, IsSourceSolution}
use Rattle.lusource.specs.Instances.{instance_at}

-- both give each main variable the same stream
abbrev pub SameOnVariables : FlatView → Streams → SourceStreams → Type 0
SameOnVariables flat τ σ = (v : ℕ) (x : Variable) → slice_get flat.variables v ≡ Some x → τ v ≡ σ [] x.name

-- At a table, each solution of the source is one of the flat program, and each solution of the flat program
-- is one of the source, with the same streams for the main variables.
pub record Agrees (program : ProgramTree) (main : List ℕ) (inputs : InputsView)
    (flat : FlatView) : Type 0 where
  pub to_flat : (σ : SourceStreams) → IsSourceSolution program main inputs σ
      → (τ : Streams) × IsSolution flat inputs τ × SameOnVariables flat τ σ
  pub to_source : (τ : Streams) → IsSolution flat inputs τ
      → (σ : SourceStreams) × IsSourceSolution program main inputs σ × SameOnVariables flat τ σ

-- At a table the program has a solution, and each two of its solutions give every main variable the same
-- stream.
pub record HasOneMainMeaning (program : ProgramTree) (main : List ℕ) (inputs : InputsView)
    (flat : FlatView) : Type 0 where
  pub some : (σ : SourceStreams) × IsSourceSolution program main inputs σ
  pub same : (σ σ' : SourceStreams) → IsSourceSolution program main inputs σ
      → IsSourceSolution program main inputs σ' → (v t : ℕ) (x : Variable)
      → slice_get flat.variables v ≡ Some x → σ [] x.name t ≡ σ' [] x.name t

-- so it is wherever a flat program, whose reads come first and whose main variables are flows, agrees with
-- the program
abbrev pub OneMainMeaningLaw : Type 0
OneMainMeaningLaw = (program : ProgramTree) (main : List ℕ) (inputs : InputsView) (flat : FlatView)
    → IsOrdered flat → length flat.variables ≤ flows_of flat → Agrees program main inputs flat
    → HasOneMainMeaning program main inputs flat

-- At each table, the flow at place i has the stream of variable x of the instance at a path, in each solution
-- of either.
pub record IsFlowOf (program : ProgramTree) (main : List ℕ) (flat : FlatView) (path : Path) (x : List ℕ)
    (i : ℕ) : Type 0 where
  pub is_flow : i < flows_of flat
  pub same : (inputs : InputsView) (σ : SourceStreams) (τ : Streams) → IsSourceSolution program main inputs σ
      → IsSolution flat inputs τ → (t : ℕ) → σ path x t ≡ τ i t

-- each variable of each instance has a flow
abbrev pub InstancesHaveFlows : ProgramTree → List ℕ → FlatView → Type 0
InstancesHaveFlows program main flat =
    (path : Path) (node : NodeTree) (x : List ℕ)
    → instance_at program main path ≡ Some node → Contains (variables_of node) x
    → (i : ℕ) × IsFlowOf program main flat path x i

-- At a table the program has a solution, and each two of its solutions give every variable of every instance
-- the same stream.
pub record HasOneMeaning (program : ProgramTree) (main : List ℕ) (inputs : InputsView) : Type 0 where
  pub some : (σ : SourceStreams) × IsSourceSolution program main inputs σ
  pub same : (σ σ' : SourceStreams) → IsSourceSolution program main inputs σ
      → IsSourceSolution program main inputs σ' → (path : Path) (node : NodeTree) (x : List ℕ) (t : ℕ)
      → instance_at program main path ≡ Some node → Contains (variables_of node) x → σ path x t ≡ σ' path x t

-- so it is wherever such a flat program agrees with the program, and the variables of its instances have
-- flows
abbrev pub OneMeaningLaw : Type 0
OneMeaningLaw =
    (program : ProgramTree) (main : List ℕ) (inputs : InputsView) (flat : FlatView)
    → IsOrdered flat → Agrees program main inputs flat → InstancesHaveFlows program main flat
    → HasOneMeaning program main inputs
