-- Why a link is there: the least flow of the receiving site that names its variable; where there is none, the
-- least flow that the site needs and whose clock is on it.
use Rattle.std.specs.Prelude.{◌≡◌, ◌⊎◌, ℕ, ◌<◌, Bool, true, false, ◌&&◌, ◌||◌, find, length, Option, Some}
use Rattle.std.specs.Prelude.{None, Contains}
use Rattle.std.specs.List.{range_with_len}
use Rattle.luflow.specs.declared.form.Flow.{Flow}
use Rattle.luflow.specs.Program.{FlatView, flow_at, flows_of, places, clock_reads}
use Rattle.luflow.specs.Rank.{row}
use Rattle.luworld.specs.declared.link.Link.{Link}
use Rattle.luworld.specs.Needs.{PlanView, IsNeeded, IsPlan, stands, is_in}
use Rattle.luplace_report.specs.declared.cause.Cause.{Cause}
use Rattle.luplace_report.specs.declared.cause.Cause.TheVariants.{Reader, Clock}

-- whether a flow names a place: as an operand, or as the variable of its clock
abbrev pub names_place : Option Flow → ℕ → Bool
names_place None x = false
names_place (Some flow) x = is_in x (places flow.form) || is_in x (clock_reads flow.clock)

abbrev pub names_at : FlatView → ℕ → ℕ → Bool
names_at flat i x = names_place (flow_at flat i) x

-- whether the clock of a flow is on a variable
abbrev pub is_clock_on : Option Flow → ℕ → Bool
is_clock_on None x = false
is_clock_on (Some flow) x = is_in x (clock_reads flow.clock)

abbrev pub clocks_at : FlatView → ℕ → ℕ → Bool
clocks_at flat i x = is_clock_on (flow_at flat i) x

-- whether flow i stands at site s and names variable x
abbrev pub is_reader : PlanView → ℕ → ℕ → ℕ → Bool
is_reader plan s x i = stands plan i s && names_at plan.flat i x

-- whether site s needs flow i, whose clock is on variable x
abbrev pub is_clocked : PlanView → ℕ → ℕ → ℕ → Bool
is_clocked plan s x i = clocks_at plan.flat i x && is_in i (row plan.needs s)

-- the least of them
abbrev pub reader : PlanView → ℕ → ℕ → Option ℕ
reader plan s x = find (is_reader plan s x) (range_with_len 0 (flows_of plan.flat))

abbrev pub clocked : PlanView → ℕ → ℕ → Option ℕ
clocked plan s x = find (is_clocked plan s x) (range_with_len 0 (flows_of plan.flat))

abbrev pub first_cause : Option ℕ → Option ℕ → Option Cause
first_cause (Some i) other = Some (Reader i)
first_cause None (Some i) = Some (Clock i)
first_cause None None = None

abbrev pub cause_of : PlanView → Link → Option Cause
cause_of plan link = first_cause (reader plan link.to link.flow) (clocked plan link.to link.flow)

-- Flow i stands at the site and has the variable as an operand or as the variable of its clock.
pub record IsReadBy (plan : PlanView) (s x i : ℕ) : Type 0 where
  pub stands_there : stands plan i s ≡ true
  pub flow : Flow
  pub at : flow_at plan.flat i ≡ Some flow
  pub named : Contains (places flow.form) x ⊎ Contains (clock_reads flow.clock) x

-- No flow of the site names the variable; variable i, which doesn't stand there, is needed there, and its
-- clock is on it.
pub record IsClockOf (plan : PlanView) (s x i : ℕ) : Type 0 where
  pub needed : IsNeeded plan s i
  pub main : i < length plan.flat.variables
  pub elsewhere : stands plan i s ≡ false
  pub flow : Flow
  pub at : flow_at plan.flat i ≡ Some flow
  pub on : Contains (clock_reads flow.clock) x

abbrev pub IsCause : PlanView → Link → Cause → Type 0
IsCause plan link (Reader i) = IsReadBy plan link.to link.flow i
IsCause plan link (Clock i) = IsClockOf plan link.to link.flow i

-- Each link of a plan has a cause, and it is one.
abbrev pub CauseLaw : Type 0
CauseLaw = (plan : PlanView) (link : Link) → IsPlan plan → Contains plan.links link
    → (cause : Cause) × (cause_of plan link ≡ Some cause) × IsCause plan link cause
