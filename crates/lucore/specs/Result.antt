-- What flattening gives.
use Rattle.std.specs.Prelude.{◌≡◌, ℕ, ◌<◌, ◌≤◌, List, Some, slice_get, slice_index}
use Rattle.lubase.specs.Limits.{most_flows}
use Rattle.lutree.specs.Tree.{ProgramTree}
use Rattle.luflow.specs.declared.form.FaultKind.{FaultKind}
use Rattle.luflow.specs.declared.variable.Variable.{Variable}
use Rattle.luflow.specs.Program.{FlatView, InputsView, flows_of}
use Rattle.luflow.specs.Streams.{Streams}
use Rattle.luflow.specs.Solution.{IsSolution}
use Rattle.luflow.specs.Faults.{IsFault}
use Rattle.luflow.specs.Rank.{reads_of}
use Rattle.luflow.specs.Flats.{IsFlat}
use Rattle.luflow.specs.Tables.{FitsProgram}
use Rattle.lucore_laws.specs.Rank.{IsLeastOnCycle}
use Rattle.lusource.specs.Source.{SourceStreams, IsSourceSolution}
use Rattle.lusource.specs.Faults.{IsSourceFault}
use Rattle.lusource.specs.Agreement.{Agrees, HasOneMeaning}
use Rattle.lustat_rules.specs.Accepted.{IsAccepted}
use Rattle.lucore_laws.specs.Layout.{IsLaidOut}
use Rattle.lucore_laws.specs.ListLaws.{HasColumns}
use Rattle.lucore_laws.specs.Reads.{Occurrence, Leads}
use Rattle.lucore_laws.specs.CausalityLaws.{HasCycle}
use Rattle.lucore_laws.specs.Owners as owners
use Rattle.lucore.specs.declared.error.CoreError.{CoreError}
use Rattle.lucore.specs.declared.error.CoreError.TheVariants.{TooLarge, Cycle, OutOfMemory}

-- where a flow of the flat program is at fault in its solution, an operator of the source is in each of its
-- solutions: at the same instant, by the same kind, in the equation of the flow's owner or in an instance of
-- a call there
abbrev pub HasSourceFaults : ProgramTree → List ℕ → FlatView → Type 0
HasSourceFaults program main flat =
    (inputs : InputsView) (σ : SourceStreams) (τ : Streams) → IsSourceSolution program main inputs σ
    → IsSolution flat inputs τ
    → (i v t : ℕ) (kind : FaultKind) (x : Variable) → IsFault flat inputs τ i t kind
    → slice_get flat.owners i ≡ Some v → slice_get flat.variables v ≡ Some x
    → IsSourceFault program main inputs σ x.name t kind

-- and the other way: each fault of the source is one of a flow of the flat program
abbrev pub HasAllFaults : ProgramTree → List ℕ → FlatView → Type 0
HasAllFaults program main flat =
    (inputs : InputsView) (σ : SourceStreams) (τ : Streams) → IsSourceSolution program main inputs σ
    → IsSolution flat inputs τ
    → (name : List ℕ) (t : ℕ) (kind : FaultKind) → IsSourceFault program main inputs σ name t kind
    → (i : ℕ) × IsFault flat inputs τ i t kind

-- The flat program of a source that keeps all rules and has no cycle: its list is the one of the layout, it
-- is sound and in order of rank, and at every table that has the inputs' columns it has the same solutions as
-- the source, which has one and no other as to the variables of all its instances; its faults are faults of
-- the source, and there are no others. A table that fits the flat program has these columns.
pub record IsFlatOf (program : ProgramTree) (main : List ℕ) (flat : FlatView) : Type 0 where
  pub accepted : IsAccepted program main
  pub causal : ¬ HasCycle program main
  pub laid_out : IsLaidOut program main flat
  pub is_flat : IsFlat flat
  pub columns : (inputs : InputsView) → FitsProgram flat inputs → HasColumns program main inputs
  pub agrees : (inputs : InputsView) → HasColumns program main inputs → Agrees program main inputs flat
  pub one_meaning : (inputs : InputsView) → HasColumns program main inputs → HasOneMeaning program main inputs
  pub faults : HasSourceFaults program main flat
  pub all_faults : HasAllFaults program main flat

-- the list of the source is longer than a flat program may be
pub record IsTooLarge (program : ProgramTree) (main : List ℕ) : Type 0 where
  pub flat : FlatView
  pub laid_out : IsLaidOut program main flat
  pub large : most_flows < flows_of flat

-- The list of the source isn't too large, and the least flow of it that reads itself through a chain of reads
-- stands in the equation of the variable of this name. So does an occurrence of the source that reads itself
-- through a chain.
pub record ReadsItself (program : ProgramTree) (main : List ℕ) (name : List ℕ) : Type 0 where
  pub flat : FlatView
  pub laid_out : IsLaidOut program main flat
  pub few : flows_of flat ≤ most_flows
  pub place : ℕ
  pub least : IsLeastOnCycle (reads_of flat) place
  pub owner : Variable
  pub is_owner : slice_get flat.variables (slice_index flat.owners place) ≡ Some owner
  pub named : name ≡ owner.name
  pub occurrence : Occurrence
  pub leads : Leads program main occurrence occurrence
  pub owns : owners.owner laid_out.node occurrence ≡ slice_index flat.owners place

-- what a refusal reports of a program
abbrev pub Refuses : ProgramTree → List ℕ → CoreError → Type 0
Refuses program main TooLarge = IsTooLarge program main
Refuses program main (Cycle name) = ReadsItself program main name
Refuses program main OutOfMemory = Unit {0}
