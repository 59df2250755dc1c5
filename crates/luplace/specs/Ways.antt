-- In which way a run goes: by rows, or instant by instant, and why.
use Rattle.std.specs.Prelude.{◌≡◌, ◌≢◌, ◌<◌, ◌↔◌, ℕ, Bool, true, false, List, [], ◌++◌, length, Option, Some}
use Rattle.std.specs.Prelude.{None, Contains}
use Rattle.std.specs.List.Sorted.{IsStrictlyIncreasing}
use Rattle.luflow.specs.declared.form.Flow.{Flow}
use Rattle.luflow.specs.Program.{FlatView, flow_at, places, clock_reads}
use Rattle.luworld.specs.declared.link.Link.{Link}
use Rattle.luworld.specs.Needs.{PlanView, flow_sites}
use Rattle.luplace.specs.Classes.{AreClasses}
use Rattle.luplace.specs.declared.way.Way.{Way}
use Rattle.luplace.specs.declared.way.Way.TheVariants.{Rows, Parted, Nil}

-- CYCLES

-- what a flow reads, at the same instant or before: its operands, and the variable of its clock
abbrev pub named : Option Flow → List ℕ
named None = []
named (Some flow) = places flow.form ++ clock_reads flow.clock

abbrev pub Reads : FlatView → ℕ → ℕ → Type 0
Reads flat i r = Contains (named (flow_at flat i)) r

-- a chain of one read or more
pub data Leads (flat : FlatView) : ℕ → ℕ → Type 0 where
  one : (i r : ℕ) → Reads flat i r → Leads flat i r
  more : (i j r : ℕ) → Leads flat i j → Reads flat j r → Leads flat i r

-- two flows are on one cycle where each leads to the other
pub record ShareCycle (flat : FlatView) (i j : ℕ) : Type 0 where
  pub there : Leads flat i j
  pub back : Leads flat j i

-- a flow is on a parted cycle: on one with a flow that stands at other sites
abbrev pub IsParted : PlanView → ℕ → Type 0
IsParted plan i = (j : ℕ) × ShareCycle plan.flat i j × (flow_sites plan i ≢ flow_sites plan j)

-- no cycle is parted: all flows of one stand at the same sites
abbrev pub NoneParted : PlanView → Type 0
NoneParted plan = (i j : ℕ) → ShareCycle plan.flat i j → flow_sites plan i ≡ flow_sites plan j

-- VALUES AT FIRST

-- a flow may be nil at its clock's first tick: the rules of initialisation leave no choice
abbrev pub MayBeNil : FlatView → ℕ → Type 0
MayBeNil flat i = (class : ℕ → Bool) → AreClasses flat class → class i ≡ true

-- a flow is never nil by these rules
abbrev pub IsInitialised : FlatView → ℕ → Type 0
IsInitialised flat i = (class : ℕ → Bool) × AreClasses flat class × (class i ≡ false)

-- a link carries the variable
abbrev pub IsSent : PlanView → ℕ → Type 0
IsSent plan v = (link : Link) × Contains plan.links link × (link.flow ≡ v)

-- WAYS

-- A run goes by rows where no cycle is parted over sites, and what a link carries is never nil.
pub record GoesByRows (plan : PlanView) : Type 0 where
  pub together : NoneParted plan
  pub initialised : (v : ℕ) → IsSent plan v → IsInitialised plan.flat v

-- the numbers of which something is true, all of them, in order
pub record AreAll (P : ℕ → Type 0) (vs : List ℕ) : Type 0 where
  pub in_order : IsStrictlyIncreasing vs
  pub exactly : (v : ℕ) → Contains vs v ↔ P v

abbrev pub IsPartedVariable : PlanView → ℕ → Type 0
IsPartedVariable plan v = (v < length plan.flat.variables) × IsParted plan v

abbrev pub IsSentNil : PlanView → ℕ → Type 0
IsSentNil plan v = IsSent plan v × MayBeNil plan.flat v

-- The way of a plan: by rows, or which main variables are on parted cycles, or, where there are no such
-- cycles, which ones are sent and may be nil.
abbrev pub IsWayOf : PlanView → Way → Type 0
IsWayOf plan Rows = GoesByRows plan
IsWayOf plan (Parted vs) = (0 < length vs) × AreAll (IsPartedVariable plan) vs
IsWayOf plan (Nil vs) = (0 < length vs) × AreAll (IsSentNil plan) vs × NoneParted plan
