-- What is told of the first fault.
use Rattle.std.specs.Prelude.{◌≡◌, ℕ, ◌<◌, Option, Some, None, slice_get}
use Rattle.luflow.specs.declared.data.Datum.{Datum}
use Rattle.luflow.specs.declared.data.Status.TheVariants.{Present}
use Rattle.luflow.specs.declared.form.FaultKind.{FaultKind}
use Rattle.luflow.specs.Program.{FlatView, InputsView}
use Rattle.luflow.specs.Streams.{Known, Streams}
use Rattle.luflow.specs.Solution.{IsSolution}
use Rattle.luflow.specs.Faults.{IsFault}
use Rattle.lueval.specs.Whole.{IsEarlier, HasNoFault}
use Rattle.lueval.specs.declared.faults.FoundFault.{FoundFault}
use Rattle.lueval.specs.declared.faults.Reads.{Reads}
use Rattle.lueval.specs.Reads.{reads_at}

-- what the second operand has at t, if there is one
abbrev pub HasSecond : Streams → ℕ → Option ℕ → Option Datum → Type 0
HasSecond σ t None second = second ≡ None
HasSecond σ t (Some b) second =
    (datum : Datum) × (second ≡ Some datum) × (σ b t ≡ Known (Present datum))

-- The flow at this place is at fault at this instant, there is no fault at an instant before, nor at this one
-- of a flow of lesser rank; and its operands are present then, with these data.
pub record IsFoundFault (flat : FlatView) (inputs : InputsView) (σ : Streams)
    (found : FoundFault) : Type 0 where
  pub rank : ℕ
  pub ranked : slice_get flat.order rank ≡ Some found.place
  pub early : found.instant < inputs.instants
  pub fault : IsFault flat inputs σ found.place found.instant found.kind
  pub first : (u q i : ℕ) (other : FaultKind) → slice_get flat.order q ≡ Some i
      → IsEarlier u q found.instant rank → IsFault flat inputs σ i u other → ⊥
  pub reads : Reads
  pub reads_are : reads_at flat.flows found.place ≡ Some reads
  pub left : σ reads.left found.instant ≡ Known (Present found.left)
  pub right : HasSecond σ found.instant reads.right found.right

-- the first fault, in each solution; or there is none
abbrev pub TellsFirstFault : FlatView → InputsView → Option FoundFault → Type 0
TellsFirstFault flat inputs None = HasNoFault flat inputs
TellsFirstFault flat inputs (Some found) = (σ : Streams) → IsSolution flat inputs σ
    → IsFoundFault flat inputs σ found
