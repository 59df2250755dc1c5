-- What the flat list of an accepted program keeps.
use Rattle.std.specs.Prelude.{◌≡◌, ◌≤◌, ℕ, List, ◌++◌, Some, slice_get, All}
use Rattle.lubase.specs.Limits.{most_flows}
use Rattle.lutree.specs.Tree.{ProgramTree}
use Rattle.luflow.specs.declared.form.Flow.{Flow}
use Rattle.luflow.specs.declared.form.Form.TheVariants.{Input}
use Rattle.luflow.specs.declared.variable.Variable.{Variable}
use Rattle.luflow.specs.declared.variable.Role.TheVariants as roles
use Rattle.luflow.specs.Program.{FlatView, IsOrdered, flow_at, flows_of, places, clock_reads}
use Rattle.luflow.specs.Rank.{IsRankOrder, reads_of}
use Rattle.luflow.specs.Sound.{IsSound}
use Rattle.luflow.specs.Variables.{inputs_of}
use Rattle.luflow.specs.Flats.{IsWithin, IsFlat}
use Rattle.lustat_rules.specs.Accepted.{IsAccepted}
use Rattle.lucore_laws.specs.Layout.{IsLaidOut}
use Rattle.lucore_laws.specs.ListLaws.{DefineSomething}

-- The operands' clocks and types fit, an assignment of classes meets all needs and gives the outputs class 0,
-- and `current` is defined at once.
abbrev pub SoundLaw : Type 0
SoundLaw = (p : ProgramTree) (main : List ℕ) (flat : FlatView) → IsAccepted p main → DefineSomething p
    → IsLaidOut p main flat → IsSound flat

-- What a flow names is a main variable or stands in the flow's own equation, and the flows that read the
-- table are the inputs among the main variables, which come first, each at the number of its column and of
-- its type.
pub record IsInside (flat : FlatView) : Type 0 where
  pub inner : (i : ℕ) (flow : Flow) → flow_at flat i ≡ Some flow → All (IsWithin flat i)
      (places flow.form ++ clock_reads flow.clock)
  pub input_there : (i c : ℕ) (flow : Flow) → flow_at flat i ≡ Some flow → flow.form ≡ Input c
      → (c ≡ i) × (x : Variable) × (slice_get flat.variables i ≡ Some x) × (x.role ≡ roles.Input)
  pub input_is : (v : ℕ) (x : Variable) → slice_get flat.variables v ≡ Some x → x.role ≡ roles.Input
      → (flow : Flow) × (flow_at flat v ≡ Some flow) × (flow.form ≡ Input v) × (flow.kind ≡ x.kind)
  pub inputs_first : (rest : List Variable) × (flat.variables ≡ inputs_of flat.variables ++ rest)

-- so it is for every accepted program
abbrev pub InsideLaw : Type 0
InsideLaw = (p : ProgramTree) (main : List ℕ) (flat : FlatView) → IsAccepted p main → DefineSomething p
    → IsLaidOut p main flat → IsInside flat

-- The flat program of an accepted program keeps all that evaluation rests on, if its order is one of rank and
-- it is small enough.
abbrev pub FlatLaw : Type 0
FlatLaw =
    (p : ProgramTree) (main : List ℕ) (flat : FlatView)
    → IsAccepted p main → DefineSomething p → IsLaidOut p main flat → IsOrdered flat
    → IsRankOrder (reads_of flat) flat.order → flows_of flat ≤ most_flows → IsFlat flat
