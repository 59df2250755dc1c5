-- One run: a plan and the inputs, what its links carry, and its scripts.
use Rattle.std.specs.Prelude.{◌≡◌, ◌≢◌, ℕ, ◌+◌, ◌<◌, ◌≤◌, Bool, true, false, ◌||◌, ◌&&◌, ◌==◌, nat_lt, nat_eq}
use Rattle.std.specs.Prelude.{filter, flat_map, cond, List, [], ◌∷◌, length, Option, Some, None, is_some}
use Rattle.std.specs.Prelude.{slice_get, take, All, unwrap_or, position}
use Rattle.std.specs.List.{range_with_len}
use Rattle.std.specs.Option.{option_map}
use Rattle.lubase.specs.Limits.{most_instants}
use Rattle.luflow.specs.declared.message.Msg.{Msg}
use Rattle.luflow.specs.declared.form.Form.TheVariants as forms
use Rattle.luflow.specs.declared.form.Flow.{Flow}
use Rattle.luflow.specs.Variables.{is_output_of}
use Rattle.luflow.specs.Program.{InputsView, flow_at, flows_of, IsOrdered, places, clock_reads}
use Rattle.luflow.specs.Streams.{Streams, is_broken}
use Rattle.luflow.specs.Solution.{solution, clock_of_flow}
use Rattle.luflow.specs.Messages.{marks, messages}
use Rattle.luflow.specs.Sound.{IsSound, IsFit}
use Rattle.luflow.specs.Tables.{IsTable}
use Rattle.luworld.specs.Systems.{Item, System}
use Rattle.luworld.specs.Outline.{Outline, system, script as outline_script, full_script, round_cell, NoStop}
use Rattle.luworld.specs.Needs.{PlanView, sites_of, stands, home, IsPlan}
use Rattle.luworld.specs.declared.link.Link.{Link}

-- a plan, and the table of the inputs
pub record JobView : Type 0 where
  pub plan : PlanView
  pub inputs : InputsView

-- what every run of the product keeps: its plan is one, and its inputs are those of its program, of their
-- types
pub record IsJobView (job : JobView) : Type 0 where
  pub plan_is : IsPlan job.plan
  pub table_is : IsTable job.inputs
  pub fit : IsFit job.plan.flat job.inputs

-- the one solution of the run's program on its inputs
abbrev pub streams_of : JobView → Streams
streams_of job = solution job.plan.flat job.inputs

-- the flow that a link carries
abbrev pub flow_of_link : PlanView → ℕ → Option ℕ
flow_of_link plan l = option_map (λ (k : Link). k.flow) (slice_get plan.links l)

abbrev pub messages_of : JobView → Streams → Option ℕ → List Msg
messages_of job σ None = []
messages_of job σ (Some i) = messages 0 (marks (σ i) job.inputs.instants)

-- the list of a link: that of its flow's stream
unfoldable pub link_list : JobView → Streams → ℕ → List Msg
link_list job σ l = messages_of job σ (flow_of_link job.plan l)

-- the flow that a link carries, the site that takes it, and the links of a flow in order of number
abbrev pub carried : PlanView → ℕ → ℕ
carried plan l = unwrap_or (flow_of_link plan l) 0

abbrev pub receiver_of : PlanView → ℕ → ℕ
receiver_of plan l = unwrap_or (option_map (λ (k : Link). k.to) (slice_get plan.links l)) 0

abbrev pub carriers : PlanView → ℕ → List ℕ
carriers plan i = filter (λ l. nat_eq (carried plan l) i) (range_with_len 0 (length plan.links))

-- the links by which a site sends a flow: all of the flow's at its home, none elsewhere
abbrev pub sends : PlanView → ℕ → ℕ → List ℕ
sends plan s i = cond (nat_eq (home plan i) s) (carriers plan i) []

-- the link by which a site takes a flow
abbrev pub is_into : ℕ → ℕ → Link → Bool
is_into s i k = (k.flow == i) && (k.to == s)

abbrev pub link_into : PlanView → ℕ → ℕ → Option ℕ
link_into plan s i = position (is_into s i) plan.links

-- whether a site computes or takes a flow
abbrev pub knows : PlanView → ℕ → ℕ → Bool
knows plan s i = stands plan i s || is_some (link_into plan s i)

-- whether a clock is known and true
abbrev pub is_open : Option Bool → Bool
is_open None = false
is_open (Some b) = b

-- a run without its values: where flows stand, when their clocks are true, and where they are broken
abbrev pub outline : JobView → Streams → Outline
outline job σ =
    record {
      sites = sites_of job.plan;
      capacity = job.plan.capacity;
      instants = job.inputs.instants;
      ranked = job.plan.flat.order;
      stands = stands job.plan;
      home = home job.plan;
      links = length job.plan.links;
      flow_of = carried job.plan;
      receiver = receiver_of job.plan;
      present = λ i t. is_open (clock_of_flow job.inputs σ (flow_at job.plan.flat i) t);
      broken = λ i t. (nat_lt i (flows_of job.plan.flat) && nat_lt t job.inputs.instants)
          && is_broken (σ i t);
    }

-- the scripts of a run and the ends of its links
abbrev pub system_of : JobView → System
system_of job = system (outline job (streams_of job))

-- a site's script
abbrev pub script : JobView → Streams → ℕ → List Item
script job σ s = outline_script (outline job σ) s

-- the script as it were without a stop, by instants and flows in order of rank
unfoldable pub endless : JobView → Streams → ℕ → List Item
endless job σ s = full_script (outline job σ) s

unfoldable pub cell : JobView → Streams → ℕ → ℕ → ℕ → List Item
cell job σ s t i = round_cell (outline job σ) s t i

abbrev pub round : JobView → Streams → ℕ → ℕ → List Item
round job σ s t = flat_map (cell job σ s t) job.plan.flat.order

-- how many items stand before item j of the flow of rank p at t
unfoldable pub items_before : JobView → Streams → ℕ → ℕ → ℕ → ℕ → ℕ
items_before job σ s t p j =
    length (flat_map (round job σ s) (range_with_len 0 t)) + (length (flat_map (cell job σ s t)
    (take p job.plan.flat.order)) + j)

-- no stop is among the items, or in the script: no computation of a broken flow, and no take of a message
-- that never comes
abbrev pub IsFree : JobView → List Item → Type 0
IsFree job xs = NoStop (outline job (streams_of job)) [] xs

abbrev pub HasNoStop : JobView → ℕ → Type 0
HasNoStop job s = IsFree job (script job (streams_of job) s)

-- no flow breaks
abbrev pub NoFault : JobView → Type 0
NoFault job = (i t : ℕ) → i < flows_of job.plan.flat → t < job.inputs.instants
    → is_broken (streams_of job i t) ≡ false

-- the main variables that are outputs, in order of declaration
abbrev pub outputs_of : PlanView → List ℕ
outputs_of plan = filter (is_output_of plan.flat) (range_with_len 0 (length plan.flat.variables))

abbrev pub listed : Option ℕ → List ℕ
listed None = []
listed (Some l) = l ∷ []

-- how the parts of a plan fit each other, for the machine of a site
pub record IsCoherent (plan : PlanView) : Type 0 where
  pub ordered : IsOrdered plan.flat
  pub sound : IsSound plan.flat
  pub room : 1 ≤ plan.capacity
  pub some_sites : 0 < sites_of plan
  pub homes : (i : ℕ) → home plan i < sites_of plan
  pub stands_home : (i : ℕ) → i < flows_of plan.flat → stands plan i (home plan i) ≡ true
  pub stands_in : (i s : ℕ) → stands plan i s ≡ true → s < sites_of plan
  pub carries : (l : ℕ) → l < length plan.links → carried plan l < length plan.flat.variables
  pub receivers : (l : ℕ) → receiver_of plan l < sites_of plan
  pub elsewhere : (l : ℕ) → l < length plan.links → receiver_of plan l ≢ home plan (carried plan l)
  pub one_link : (s i : ℕ) → home plan i ≢ s → filter (λ l. nat_eq (receiver_of plan l) s)
      (carriers plan i) ≡ listed (link_into plan s i)
  pub no_link : (s i : ℕ) → stands plan i s ≡ true → link_into plan s i ≡ None
  pub few_links : length plan.links ≤ 65536
  pub variables_first : length plan.flat.variables ≤ flows_of plan.flat
  pub input_there : (i c : ℕ) (flow : Flow) → flow_at plan.flat i ≡ Some flow → flow.form ≡ forms.Input c
      → c ≡ i
  pub needs_clock : (s i : ℕ) (flow : Flow) → flow_at plan.flat i ≡ Some flow → knows plan s i ≡ true
      → All (λ r. knows plan s r ≡ true) (clock_reads flow.clock)
  pub needs_operands : (s i : ℕ) (flow : Flow) → flow_at plan.flat i ≡ Some flow → stands plan i s ≡ true
      → All (λ r. knows plan s r ≡ true) (places flow.form)

-- what the machines of a run rest on
pub record IsJob (job : JobView) : Type 0 where
  pub is_plan : IsCoherent job.plan
  pub few : job.inputs.instants ≤ most_instants
  pub fit : IsFit job.plan.flat job.inputs
