-- What every flat program of the product keeps.
use Rattle.std.specs.Prelude.{◌≡◌, ℕ, ◌<◌, ◌≤◌, ◌⊎◌, List, ◌++◌, length, All, slice_get, slice_index, Some}
use Rattle.lubase.specs.Limits.{most_flows}
use Rattle.luflow.specs.declared.form.Flow.{Flow}
use Rattle.luflow.specs.declared.form.Form.TheVariants.{Input}
use Rattle.lutree.specs.declared.program.Kind.{Kind}
use Rattle.lutree.specs.declared.program.Kind.TheVariants as kinds
use Rattle.luflow.specs.declared.variable.Variable.{Variable}
use Rattle.luflow.specs.declared.variable.Enum.{Enum}
use Rattle.luflow.specs.declared.variable.Role.TheVariants as roles
use Rattle.luflow.specs.Program.{FlatView, IsOrdered, flow_at, flows_of, places, clock_reads}
use Rattle.luflow.specs.Variables.{inputs_of}
use Rattle.luflow.specs.Rank.{IsRankOrder, reads_of}
use Rattle.luflow.specs.Sound.{IsSound}

-- place r is a main variable, or stands in the same equation as flow i: what else is named lies inside one
-- equation
abbrev pub IsWithin : FlatView → ℕ → ℕ → Type 0
IsWithin flat i r = (r < length flat.variables) ⊎ (slice_index flat.owners r ≡ slice_index flat.owners i)

-- a type is `int`, `bool`, or the enumeration of its place among these, with as many names
abbrev pub IsTypeAmong : List Enum → Kind → Type 0
IsTypeAmong types kinds.Int = Unit {0}
IsTypeAmong types kinds.Bool = Unit {0}
IsTypeAmong types (kinds.Enum place size) = (t : Enum) × (slice_get types place ≡ Some t)
    × (length t.names ≡ size)

-- It is in order of rank and sound, small enough, and its main variables come first, and of these the inputs;
-- the inputs are the flows that read the table, column by column. A main variable's flow has its type, and
-- each type is one of the program's.
pub record IsFlat (flat : FlatView) : Type 0 where
  pub ordered : IsOrdered flat
  pub ranked : IsRankOrder (reads_of flat) flat.order
  pub sound : IsSound flat
  pub few : flows_of flat ≤ most_flows
  pub owners_len : length flat.owners ≡ flows_of flat
  pub owners_in : All (λ v. v < length flat.variables) flat.owners
  pub inner : (i : ℕ) (flow : Flow) → flow_at flat i ≡ Some flow → All (IsWithin flat i)
      (places flow.form ++ clock_reads flow.clock)
  pub main_clocks : (v : ℕ) (flow : Flow) → v < length flat.variables → flow_at flat v ≡ Some flow
      → All (λ c. c < length flat.variables) (clock_reads flow.clock)
  pub input_there : (i c : ℕ) (flow : Flow) → flow_at flat i ≡ Some flow → flow.form ≡ Input c
      → (c ≡ i) × (x : Variable) × (slice_get flat.variables i ≡ Some x) × (x.role ≡ roles.Input)
  pub input_is : (v : ℕ) (x : Variable) → slice_get flat.variables v ≡ Some x → x.role ≡ roles.Input
      → (flow : Flow) × (flow_at flat v ≡ Some flow) × (flow.form ≡ Input v) × (flow.kind ≡ x.kind)
  pub kinds : (v : ℕ) (x : Variable) (flow : Flow) → slice_get flat.variables v ≡ Some x
      → flow_at flat v ≡ Some flow → flow.kind ≡ x.kind
  pub types : (i : ℕ) (flow : Flow) → flow_at flat i ≡ Some flow → IsTypeAmong flat.types flow.kind
  pub variables_first : length flat.variables ≤ flows_of flat
  pub inputs_first : (rest : List Variable) × (flat.variables ≡ inputs_of flat.variables ++ rest)
