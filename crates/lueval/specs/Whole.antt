-- What the whole evaluator answers.
use Rattle.std.specs.Prelude.{◌≡◌, ℕ, ◌<◌, ◌⊎◌, Bool, true, List, [], map, length, Some, slice_get}
use Rattle.lutree.specs.Tree.{ProgramTree}
use Rattle.luflow.specs.declared.data.Status.{Status}
use Rattle.luflow.specs.declared.form.Flow.{Flow}
use Rattle.luflow.specs.declared.form.FaultKind.{FaultKind}
use Rattle.luflow.specs.declared.variable.Variable.{Variable}
use Rattle.luflow.specs.Program.{FlatView, InputsView, flow_at, flows_of}
use Rattle.luflow.specs.Tables.{OutputColumn}
use Rattle.luflow.specs.Streams.{Known, Streams}
use Rattle.luflow.specs.Messages.{marks}
use Rattle.luflow.specs.Solution.{IsSolution}
use Rattle.luflow.specs.Faults.{IsFault}
use Rattle.luflow.specs.FlatLaws.{KeepsTypes}
use Rattle.lusource.specs.Source.{SourceStreams, IsSourceSolution}
use Rattle.lusource.specs.Agreement.{Agrees}
use Rattle.lueval_lines.specs.Outputs.{outputs_in, columns_in}
use Rattle.lueval_lines.specs.declared.error.EvalError.{EvalError}
use Rattle.lueval_lines.specs.declared.error.EvalError.TheVariants.{Fault, OutOfMemory}

-- for each main variable a list: the statuses that it has in the solution, one for each instant of the table
pub record AreStreams (flat : FlatView) (inputs : InputsView) (streams : List (List Status)) : Type 0 where
  pub count : length streams ≡ length flat.variables
  pub each : (σ : Streams) → IsSolution flat inputs σ → (v : ℕ) (statuses : List Status)
      → slice_get streams v ≡ Some statuses → map Known statuses ≡ marks (σ v) inputs.instants

-- in the words of the source: what its variables have in each solution of a program that the flat program
-- agrees with
abbrev pub AreMeant : FlatView → InputsView → List (List Status) → Type 0
AreMeant flat inputs streams =
    (program : ProgramTree) (main : List ℕ) → Agrees program main inputs flat → (σ : SourceStreams)
    → IsSourceSolution program main inputs σ
    → (v : ℕ) (x : Variable) (statuses : List Status) → slice_get flat.variables v ≡ Some x
    → slice_get streams v ≡ Some statuses → map Known statuses ≡ marks (σ [] x.name) inputs.instants

-- the outputs among the streams of all main variables
pub record AreWholeOutputs (flat : FlatView) (inputs : InputsView)
    (outputs : List OutputColumn) : Type 0 where
  pub streams : List (List Status)
  pub solution : AreStreams flat inputs streams
  pub source : AreMeant flat inputs streams
  pub are : outputs ≡ outputs_in flat.variables streams

-- the streams of all main variables, by name
pub record AreWholeColumns (flat : FlatView) (inputs : InputsView)
    (columns : List OutputColumn) : Type 0 where
  pub streams : List (List Status)
  pub solution : AreStreams flat inputs streams
  pub source : AreMeant flat inputs streams
  pub are : columns ≡ columns_in flat.variables streams

-- For each flow a list: of a flow that is wanted, the statuses that it has in the solution, one for each
-- instant of the table.
pub record AreFlowStreams (flat : FlatView) (inputs : InputsView) (wanted : List Bool)
    (streams : List (List Status)) : Type 0 where
  pub count : length streams ≡ flows_of flat
  pub each : (σ : Streams) → IsSolution flat inputs σ → (i : ℕ) (statuses : List Status)
      → slice_get wanted i ≡ Some true → slice_get streams i ≡ Some statuses
      → map Known statuses ≡ marks (σ i) inputs.instants

-- no operator is a fault at an instant of the table
abbrev pub HasNoFault : FlatView → InputsView → Type 0
HasNoFault flat inputs = (σ : Streams) → IsSolution flat inputs σ → (i t : ℕ) (kind : FaultKind)
    → t < inputs.instants → IsFault flat inputs σ i t kind → ⊥

-- instants come before ranks: rank q at instant u is before rank p at instant t
abbrev pub IsEarlier : ℕ → ℕ → ℕ → ℕ → Type 0
IsEarlier u q t p = (u < t) ⊎ ((u ≡ t) × (q < p))

-- a fault in the equation of this main variable, of the least instant and there of the least rank
pub record IsFirstFault (flat : FlatView) (inputs : InputsView) (σ : Streams) (variable instant : ℕ)
    (kind : FaultKind) : Type 0 where
  pub rank : ℕ
  pub place : ℕ
  pub ranked : slice_get flat.order rank ≡ Some place
  pub early : instant < inputs.instants
  pub owner : slice_get flat.owners place ≡ Some variable
  pub inside : variable < length flat.variables
  pub fault : IsFault flat inputs σ place instant kind
  pub first : (u q i : ℕ) (other : FaultKind) → slice_get flat.order q ≡ Some i → IsEarlier u q instant rank
      → IsFault flat inputs σ i u other → ⊥

-- an error reports the first fault of the solution, or that memory ran out
abbrev pub IsAnswer : FlatView → InputsView → EvalError → Type 0
IsAnswer flat inputs (Fault variable instant kind) = (σ : Streams) → IsSolution flat inputs σ
    → IsFirstFault flat inputs σ variable instant kind
IsAnswer flat inputs OutOfMemory = Unit {0}

-- in the solution each flow that is not broken is present exactly where its clock is true, with data of its
-- type, and outputs and clock variables are never nil
abbrev pub KeepsAllTypes : FlatView → InputsView → Type 0
KeepsAllTypes flat inputs = (σ : Streams) → IsSolution flat inputs σ → (i t : ℕ) (flow : Flow)
    → flow_at flat i ≡ Some flow → t < inputs.instants → KeepsTypes flat inputs σ i t flow
