-- Where the whole evaluator stands.
use Rattle.std.specs.Prelude.{◌≡◌, ◌≢◌, ℕ, ◌+◌, ◌<◌, ◌≤◌, List, length, All as Each, Option, Some, None}
use Rattle.std.specs.Prelude.{slice_get, slice_index}
use Rattle.luflow.specs.declared.data.Datum.{Datum}
use Rattle.luflow.specs.declared.data.Status.{Status}
use Rattle.luflow.specs.declared.data.Status.TheVariants.{Present}
use Rattle.luflow.specs.declared.form.Flow.{Flow}
use Rattle.luflow.specs.declared.form.FaultKind.{FaultKind}
use Rattle.luflow.specs.Program.{FlatView, InputsView, flow_at, flows_of}
use Rattle.luflow.specs.Streams.{Broken, Known, Streams}
use Rattle.luflow.specs.Values.{value_of}
use Rattle.luflow.specs.Solution.{solution}
use Rattle.luflow.specs.Faults.{IsFault}
use Rattle.lueval_lines.specs.declared.cell.Cell.{Cell}
use Rattle.lueval_lines.specs.declared.cell.Cell.TheVariants.{Absent}
use Rattle.lueval_lines.specs.declared.cell.Answer.{Answer}
use Rattle.lueval_lines.specs.declared.line.Line.{Line}
use Rattle.lueval_lines.specs.declared.columns.Wanted.{Wanted}
use Rattle.lueval_lines.specs.declared.columns.Notes.{Notes}
use Rattle.lueval.specs.declared.faults.FoundFault.{FoundFault}
use Rattle.lueval.specs.declared.faults.Reads.{Reads}
use Rattle.lueval.specs.declared.machine.Machine.{Machine}
use Rattle.lueval_lines.specs.Frames.{IsShown}
use Rattle.lueval_lines.specs.Operations.{form_of}
use Rattle.lueval_lines.specs.Cells.{statuses, outcome_of, given_at, view_of, looks_back, IsLast}
use Rattle.lueval_lines.specs.Columns.{AreAllKept, AreColumns, AreEmpty, AreKept}
use Rattle.lueval.specs.Faults.{TellsFirstFault}
use Rattle.lueval.specs.Reads.{reads_at}
use Rattle.lueval.specs.Whole.{IsEarlier}

-- the value of a line whose branches are among these, from the table and what the machine holds
abbrev pub Computes : InputsView → Machine → ℕ → List ℕ → Line → Answer → Type 0
Computes inputs machine t branches line answer =
    outcome_of answer ≡ value_of (form_of branches line.operation) (view_of (given_at inputs t)
    (statuses machine.shown.items) machine.lasts.items line.place)

-- all before instant t is computed, and at t the flows of rank below p
pub record Stands (flat : FlatView) (inputs : InputsView) (σ : Streams) (shown : List Status)
    (lasts : List Cell) (t p : ℕ) : Type 0 where
  pub shown_len : length shown ≡ flows_of flat
  pub lasts_len : length lasts ≡ flows_of flat
  pub now : (q : ℕ) → q < p → q < length flat.order → IsShown σ shown t (slice_index flat.order q)
  pub kept : (i : ℕ) (flow : Flow) → flow_at flat i ≡ Some flow → Each (IsLast flat inputs σ lasts t)
      (looks_back i flow.form)
  pub sound : (r u : ℕ) → r < flows_of flat → u < t → σ r u ≢ Broken

abbrev pub StandsAt : FlatView → InputsView → Machine → ℕ → ℕ → Type 0
StandsAt flat inputs machine t p = Stands flat inputs (solution flat inputs)
    (statuses machine.shown.items) machine.lasts.items t p

-- the datum that a place shows, if it is present
abbrev pub IsDatumAt : List Status → ℕ → Datum → Type 0
IsDatumAt shown place found = (datum : Datum) → slice_get shown place ≡ Some (Present datum) → found ≡ datum

abbrev pub IsSecondAt : List Status → Option ℕ → Option Datum → Type 0
IsSecondAt shown None second = second ≡ None
IsSecondAt shown (Some b) second = (datum : Datum) × (second ≡ Some datum) × IsDatumAt shown b datum

-- the datum that a flow has at t is shown
pub record IsDatumShown (σ : Streams) (shown : List Status) (t r : ℕ) : Type 0 where
  pub datum : Datum
  pub there : slice_get shown r ≡ Some (Present datum)
  pub is : σ r t ≡ Known (Present datum)

-- a fault, with what its operator's operands show
pub record IsFaultFound (shown : List Status) (flows : List Flow) (place t : ℕ) (kind : FaultKind)
    (found : FoundFault) : Type 0 where
  pub at_place : found.place ≡ place
  pub at_instant : found.instant ≡ t
  pub by_kind : found.kind ≡ kind
  pub operands : (r : Reads) → reads_at flows place ≡ Some r
      → IsDatumAt shown r.left found.left × IsSecondAt shown r.right found.right

-- the flow of rank p is at fault at t, the first of all, and its operands are shown
pub record IsFirst (flat : FlatView) (inputs : InputsView) (shown : List Status) (t p : ℕ)
    (kind : FaultKind) : Type 0 where
  pub shown_len : length shown ≡ flows_of flat
  pub place : ℕ
  pub ranked : slice_get flat.order p ≡ Some place
  pub fault : IsFault flat inputs (solution flat inputs) place t kind
  pub first : (u q i : ℕ) (other : FaultKind) → slice_get flat.order q ≡ Some i → IsEarlier u q t p
      → IsFault flat inputs (solution flat inputs) i u other → ⊥
  pub reads : Reads
  pub reads_are : reads_at flat.flows place ≡ Some reads
  pub left : IsDatumShown (solution flat inputs) shown t reads.left
  pub right : (b : ℕ) → reads.right ≡ Some b → IsDatumShown (solution flat inputs) shown t b

-- the flow of rank p is passed, or it is the first fault
abbrev pub Goes : FlatView → InputsView → Machine → ℕ → ℕ → Option FaultKind → Type 0
Goes flat inputs machine t p None = StandsAt flat inputs machine t (p + 1)
Goes flat inputs machine t p (Some kind) = IsFirst flat inputs (statuses machine.shown.items) t p kind

-- all flows are passed at t, or the first fault is found
abbrev pub FirstOr : FlatView → InputsView → Machine → ℕ → Option FoundFault → Type 0
FirstOr flat inputs machine t None = StandsAt flat inputs machine t (length flat.order)
FirstOr flat inputs machine t (Some found) = TellsFirstFault flat inputs (Some found)

-- before the first instant no flow was present
pub record IsNew (flows : ℕ) (machine : Machine) : Type 0 where
  pub shown_len : length machine.shown.items ≡ flows
  pub lasts_len : length machine.lasts.items ≡ flows
  pub fresh : Each (λ x. x ≡ Absent) machine.lasts.items

-- before the first instant: a column for each of the first flows, and no status of those that are kept
pub record AreReady (flows instants : ℕ) (notes : Notes) : Type 0 where
  pub few : length notes.columns.items ≤ flows
  pub kept : AreKept (length notes.columns.items) notes.kept.items
  pub columns : AreEmpty (length notes.columns.items) notes.kept.items instants notes.columns.items

-- the whole streams of the variables that are wanted, in a solution that nothing breaks
pub record AreWhole (wanted : Wanted) (flat : FlatView) (inputs : InputsView) (notes : Notes) : Type 0 where
  pub all : AreAllKept wanted flat.variables notes.kept.items
  pub len : length notes.columns.items ≡ length flat.variables
  pub columns : AreColumns inputs (solution flat inputs) notes.kept.items notes.columns.items inputs.instants
  pub sound : (r u : ℕ) → r < flows_of flat → u < inputs.instants → solution flat inputs r u ≢ Broken
