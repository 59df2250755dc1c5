-- The faults of the flat list are those of its source.
use Rattle.std.specs.Prelude.{◌≡◌, ℕ, List, Some, slice_get}
use Rattle.lutree.specs.Tree.{ProgramTree}
use Rattle.luflow.specs.declared.form.FaultKind.{FaultKind}
use Rattle.luflow.specs.declared.variable.Variable.{Variable}
use Rattle.luflow.specs.Program.{FlatView, InputsView, IsOrdered}
use Rattle.luflow.specs.Streams.{Streams}
use Rattle.luflow.specs.Faults.{IsFault}
use Rattle.luflow.specs.Solution.{IsSolution}
use Rattle.lusource.specs.Source.{SourceStreams, IsSourceSolution}
use Rattle.lusource.specs.Faults.{IsSourceFault}
use Rattle.lustat_rules.specs.Accepted.{IsAccepted}
use Rattle.lucore_laws.specs.Layout.{IsLaidOut}
use Rattle.lucore_laws.specs.ListLaws.{DefineSomething}

-- Where a flow of the list is at fault, an operator of the source is, at the same instant and by a fault of
-- the same kind: in the main node's equation with the flow's owner as its first variable, there or in an
-- instance of a call.
abbrev pub FaultsLaw : Type 0
FaultsLaw =
    (p : ProgramTree) (main : List ℕ) (inputs : InputsView) (flat : FlatView)
    → IsAccepted p main → DefineSomething p → IsLaidOut p main flat → IsOrdered flat
    → (σ : SourceStreams) (τ : Streams) → IsSourceSolution p main inputs σ → IsSolution flat inputs τ
    → (i v t : ℕ) (kind : FaultKind) (x : Variable) → IsFault flat inputs τ i t kind
    → slice_get flat.owners i ≡ Some v → slice_get flat.variables v ≡ Some x
    → IsSourceFault p main inputs σ x.name t kind

-- And each fault of the source is one of the list: some flow is at fault then, by the same kind, and has that
-- owner.
abbrev pub AllFaultsLaw : Type 0
AllFaultsLaw =
    (p : ProgramTree) (main : List ℕ) (inputs : InputsView) (flat : FlatView)
    → IsAccepted p main → DefineSomething p → IsLaidOut p main flat → IsOrdered flat
    → (σ : SourceStreams) (τ : Streams) → IsSourceSolution p main inputs σ → IsSolution flat inputs τ
    → (name : List ℕ) (t : ℕ) (kind : FaultKind) → IsSourceFault p main inputs σ name t kind
    → (i v : ℕ) × (x : Variable) × IsFault flat inputs τ i t kind
    × (slice_get flat.owners i ≡ Some v) × (slice_get flat.variables v ≡ Some x) × (x.name ≡ name)
