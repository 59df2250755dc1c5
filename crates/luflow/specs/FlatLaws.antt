-- What holds of every flat program.
use Rattle.std.specs.Prelude.{◌≡◌, ◌≢◌, ◌↔◌, ℕ, ◌<◌, true, false, List, [], length, nat_eq, Some, slice_get}
use Rattle.lutree.specs.declared.program.Kind.{Kind}
use Rattle.lutree.specs.declared.expr.UnaryOperator.{UnaryOperator}
use Rattle.lutree.specs.declared.expr.BinaryOperator.{BinaryOperator}
use Rattle.luflow.specs.declared.data.Datum.{Datum}
use Rattle.luflow.specs.declared.data.Datum.TheVariants.{Nil}
use Rattle.luflow.specs.declared.data.Status.TheVariants.{Absent, Present}
use Rattle.luflow.specs.declared.form.Clock.TheVariants.{On}
use Rattle.luflow.specs.declared.form.Form.TheVariants.{Merge}
use Rattle.luflow.specs.declared.form.Flow.{Flow}
use Rattle.luflow.specs.declared.form.FaultKind.{FaultKind}
use Rattle.luflow.specs.declared.form.Outcome.TheVariants.{Faults, Stuck}
use Rattle.luflow.specs.declared.variable.Variable.{Variable}
use Rattle.luflow.specs.declared.variable.Role.TheVariants.{Output}
use Rattle.luflow.specs.Program.{FlatView, InputsView, IsOrdered, flow_at, flows_of}
use Rattle.luflow.specs.Operators.{single_of, double_of, IsFaultOf, IsFaultOfOne}
use Rattle.luflow.specs.Streams.{Known, Streams, truth_in, clock_at}
use Rattle.luflow.specs.Values.{value_at}
use Rattle.luflow.specs.Solution.{IsSolution, solution}
use Rattle.luflow.specs.Sound.{IsOf, clock_values, IsSound, IsFit, IsUnbroken}

-- there is a solution, and no other
pub record HasOneSolution (flat : FlatView) (inputs : InputsView) : Type 0 where
  pub exists : IsSolution flat inputs (solution flat inputs)
  pub only : (σ : Streams) → IsSolution flat inputs σ → (i t : ℕ) → i < flows_of flat
      → σ i t ≡ solution flat inputs i t

abbrev pub SolutionLaw : Type 0
SolutionLaw = (flat : FlatView) (inputs : InputsView) → IsOrdered flat → HasOneSolution flat inputs

-- what a flow of a sound program has at an instant of the table
pub record KeepsTypes (flat : FlatView) (inputs : InputsView) (σ : Streams) (i t : ℕ)
    (flow : Flow) : Type 0 where
  pub absent : σ i t ≡ Known Absent → clock_at inputs σ flow.clock t ≡ Some false
  pub present : (d : Datum) → σ i t ≡ Known (Present d) → (clock_at inputs σ flow.clock t ≡ Some true)
      × IsOf flow.kind d
  pub clock_not_nil : (c : ℕ) (d : Datum) → flow.clock ≡ On c d → σ c t ≢ Known (Present Nil)
  pub output_not_nil : (x : Variable) → slice_get flat.variables i ≡ Some x → x.role ≡ Output
      → σ i t ≢ Known (Present Nil)

abbrev pub TidyLaw : Type 0
TidyLaw = (flat : FlatView) (inputs : InputsView) (σ : Streams) → IsOrdered flat → IsSound flat
    → IsFit flat inputs → IsSolution flat inputs σ
    → (i t : ℕ) (flow : Flow) → flow_at flat i ≡ Some flow → t < inputs.instants
    → KeepsTypes flat inputs σ i t flow

abbrev pub StuckLaw : Type 0
StuckLaw = (flat : FlatView) (inputs : InputsView) (σ : Streams) → IsOrdered flat → IsSound flat
    → IsFit flat inputs → IsSolution flat inputs σ
    → (i t : ℕ) (flow : Flow) → flow_at flat i ≡ Some flow → t < inputs.instants
    → clock_at inputs σ flow.clock t ≡ Some true
    → value_at inputs σ flow.clock flow.form t ≡ Stuck → IsUnbroken σ flow.clock flow.form t → ⊥

-- Where a variable has a value, the clocks of the values of its type split it: that of this value is true,
-- and no other.
pub record SplitsAt (u : Kind) (x : Datum) : Type 0 where
  pub own : ℕ
  pub inside : own < length (clock_values u)
  pub clocks : (j : ℕ) (d : Datum) → slice_get (clock_values u) j ≡ Some d
      → truth_in d (Known (Present x)) ≡ Some (nat_eq j own)

abbrev pub SplitLaw : Type 0
SplitLaw = (u : Kind) (x : Datum) → clock_values u ≢ [] → IsOf u x → x ≢ Nil → SplitsAt u x

-- one branch of a merge is what the merge is, and the others are absent
pub record IsOneBranch (σ : Streams) (i t : ℕ) (xs : List ℕ) : Type 0 where
  pub own : ℕ
  pub place : ℕ
  pub there : slice_get xs own ≡ Some place
  pub same : σ i t ≡ σ place t
  pub others : (j r : ℕ) → slice_get xs j ≡ Some r → j ≢ own → σ r t ≡ Known Absent

abbrev pub MergeLaw : Type 0
MergeLaw = (flat : FlatView) (inputs : InputsView) (σ : Streams) → IsOrdered flat → IsSound flat
    → IsFit flat inputs → IsSolution flat inputs σ
    → (i t c : ℕ) (xs : List ℕ) (flow : Flow) (d : Datum) → flow_at flat i ≡ Some flow
    → flow.form ≡ Merge c xs → t < inputs.instants
    → σ i t ≡ Known (Present d) → IsOneBranch σ i t xs

-- an operator's outcome is a fault exactly where the language says so
pub record FaultsAre : Type 0 where
  pub of_two : (op : BinaryOperator) (x y : Datum) (kind : FaultKind) → (double_of op x y ≡ Faults kind)
      ↔ IsFaultOf op x y kind
  pub of_one : (op : UnaryOperator) (x : Datum) (kind : FaultKind) → (single_of op x ≡ Faults kind)
      ↔ IsFaultOfOne op x kind

abbrev pub FaultLaw : Type 0
FaultLaw = FaultsAre
