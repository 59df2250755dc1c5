-- Where a site stands in its script.
use Rattle.std.specs.Prelude.{◌≡◌, ◌⊎◌, ℕ, ◌+◌, ◌-◌, ◌*◌, ◌<◌, ◌≤◌, Bool, true, false, ◌||◌, ◌==◌, nat_lt}
use Rattle.std.specs.Prelude.{not, cond, if◌then◌else◌, List, [], ◌∷◌, length, Option, Some, None, is_some}
use Rattle.std.specs.Prelude.{slice_get, slice_set, slice_index, take, All, unwrap_or}
use Rattle.std.specs.Option.{option_map}
use Rattle.luflow.specs.declared.data.Datum.{Datum}
use Rattle.luflow.specs.declared.data.Datum.TheVariants.{Nil}
use Rattle.luflow.specs.declared.data.Status.{Status}
use Rattle.luflow.specs.declared.data.Status.TheVariants.{Absent, Present}
use Rattle.luflow.specs.declared.form.Form.TheVariants.{Input}
use Rattle.luflow.specs.declared.form.Flow.{Flow}
use Rattle.luflow.specs.declared.form.Outcome.{Outcome}
use Rattle.luflow.specs.declared.form.Outcome.TheVariants.{Stuck}
use Rattle.luflow.specs.declared.message.Msg.{Msg}
use Rattle.luflow.specs.declared.message.Body.{Body}
use Rattle.luflow.specs.declared.message.Body.TheVariants.{Value, Close}
use Rattle.luflow.specs.Program.{flow_at, flows_of, column_of}
use Rattle.luflow.specs.Values.{value_of}
use Rattle.luflow.specs.Faults.{IsFault}
use Rattle.luworld.specs.Systems.{Compute, Puts, Takes, puts_before, takes_before}
use Rattle.luworld.specs.Needs.{stands}
use Rattle.luworld.specs.Jobs.{JobView, IsJob, knows, cell, endless, script, system_of, is_open, HasNoStop}
use Rattle.luworld.specs.Jobs.{IsFree, items_before, link_list, streams_of}
use Rattle.lueval_lines.specs.declared.past.Past.{Past}
use Rattle.lueval_lines.specs.declared.cell.Cell.{Cell}
use Rattle.lueval_lines.specs.declared.cell.Cell.TheVariants as cells
use Rattle.lueval_lines.specs.Cells.{statuses, last_of, ticks_of, is_absent}
use Rattle.lueval_lines.specs.Frames.{clock_in, datum_in, view_in, IsShown, IsPast}
use Rattle.luflow.specs.Program.{FlatView, InputsView}
use Rattle.luflow.specs.Streams.{Streams, before, ticked}
use Rattle.luflow.specs.Messages.{presents}
use Rattle.luflow.specs.Solution.{clock_of_flow}
use Rattle.lusite.specs.KeptFlows.{IsKept, AreKept}
use Rattle.lusite.specs.declared.next.Next.{Next}
use Rattle.lusite.specs.declared.next.Next.TheVariants.{Local, Take, Put, Ended, Faulted}
use Rattle.lusite.specs.declared.next.Fault.{Fault}
use Rattle.lusite.specs.declared.report.Standing.{Standing}
use Rattle.lusite.specs.declared.report.Standing.TheVariants.{Ended as StandsEnded, Faulted as StandsFaulted}
use Rattle.lusite.specs.declared.report.Standing.TheVariants.{Cut}
use Rattle.lusite_program.specs.declared.program.Part.{Part}
use Rattle.lusite.specs.declared.state.SiteState.{SiteState}
use Rattle.lusite_program.specs.Programs.{SiteProgramView, part_at, places_of, rank_at, ranks_of}
use Rattle.lusite_program.specs.Spread.{spread}

abbrev pub is_faulted : SiteState → Bool
is_faulted a = is_some a.fault

-- a fault of the run's solution, of a flow that stands at the site: that of the last computation of the
-- site's script
pub record IsFaultAt (job : JobView) (s : ℕ) (fault : Fault) : Type 0 where
  pub place : ℕ
  pub inside : place < flows_of job.plan.flat
  pub own : stands job.plan place s ≡ true
  pub owner : slice_index job.plan.flat.owners place ≡ fault.variable
  pub in_time : fault.instant < job.inputs.instants
  pub is : IsFault job.plan.flat job.inputs (streams_of job) place fault.instant fault.kind
  pub last : slice_get (script job (streams_of job) s) (length (script job (streams_of job) s) - 1) ≡ Some
      (Compute place fault.instant)

-- flow r isn't broken before instant t, and this is its past there
pub record HasPast (flat : FlatView) (inputs : InputsView) (σ : Streams) (t r : ℕ) : Type 0 where
  pub past : Past
  pub last : before (σ r) t ≡ Some past.last
  pub ticks : ticked (clock_of_flow inputs σ (flow_at flat r)) t ≡ Some past.ticked
  pub count : presents (σ r) t ≡ past.count

-- what the machine of site s holds, where it stands at step j of the flow of rank p at instant t
pub record Stands (job : JobView) (s : ℕ) (now : List Status) (pasts : List Past) (t p j : ℕ)
    (faulted : Bool) : Type 0 where
  pub instant_le : t ≤ job.inputs.instants
  pub place_le : p ≤ length job.plan.flat.order
  pub step_le : 0 < j → (p < length job.plan.flat.order)
      × (j ≤ length (cell job (streams_of job) s t (slice_index job.plan.flat.order p)))
  pub now_len : length now ≡ flows_of job.plan.flat
  pub pasts_len : length pasts ≡ flows_of job.plan.flat
  pub counts : All (λ x. x.count ≤ t) pasts
  pub known : (i : ℕ) → i < flows_of job.plan.flat → knows job.plan s i ≡ true
      → HasPast job.plan.flat job.inputs (streams_of job) t i
  pub kept : (i : ℕ) → i < flows_of job.plan.flat → knows job.plan s i ≡ true → IsKept job.plan s i
      → IsPast job.plan.flat job.inputs (streams_of job) pasts t i
  pub shown : t < job.inputs.instants → (q : ℕ) → q < p
      → knows job.plan s (slice_index job.plan.flat.order q) ≡ true
      → IsShown (streams_of job) now t (slice_index job.plan.flat.order q)
  pub here : t < job.inputs.instants → 0 < j → faulted ≡ false
      → IsShown (streams_of job) now t (slice_index job.plan.flat.order p)
  pub no_stop : faulted ≡ false → IsFree job (take (items_before job (streams_of job) s t p j)
      (endless job (streams_of job) s))
  pub stopped : faulted ≡ true
      → (items_before job (streams_of job) s t p j ≡ length (script job (streams_of job) s))
      × (HasNoStop job s → ⊥)
  pub stopped_at : faulted ≡ true → j ≡ 1

pub data IsReady (job : JobView) (s t p j : ℕ) : Type 0 where
  Ready : p < length job.plan.flat.order
      → j < length (cell job (streams_of job) s t (slice_index job.plan.flat.order p)) → IsReady job s t p j
  Over : t ≡ job.inputs.instants → p ≡ length job.plan.flat.order → j ≡ 0 → IsReady job s t p j

-- none of the n done items stopped the site, and the next one is here; or all are done, and t is the number
-- of instants
pub record IsGoingAt (job : JobView) (s n t p j : ℕ) : Type 0 where
  pub free : IsFree job (take n (endless job (streams_of job) s))
  pub ready : IsReady job s t p j

-- the script is done, and its last item, the computation here, stopped the site
pub record IsStoppedAt (job : JobView) (s n j : ℕ) : Type 0 where
  pub done : n ≡ length (script job (streams_of job) s)
  pub stopped : HasNoStop job s → ⊥
  pub computed : j ≡ 1

-- A site that has done n items of its script stands at instant t: behind all its items of the instants
-- before, and the next one is of this instant, or of the closes, where t is the number of instants; or the
-- computation that stopped it is of this instant.
pub record IsAtInstant (job : JobView) (s n t : ℕ) : Type 0 where
  pub place : ℕ
  pub step : ℕ
  pub inside : t ≤ job.inputs.instants
  pub step_le : 0 < step → (place < length job.plan.flat.order)
      × (step ≤ length (cell job (streams_of job) s t (slice_index job.plan.flat.order place)))
  pub place_le : place ≤ length job.plan.flat.order
  pub is : n ≡ items_before job (streams_of job) s t place step
  pub here : IsGoingAt job s n t place step ⊎ IsStoppedAt job s n step

-- what a machine holds of its flows: their statuses now, and what is kept of them from the instants before
abbrev pub past_of : Cell → ℕ → Past
past_of cell n = record { last = last_of cell; ticked = ticks_of cell; count = n }

unfoldable pub pasts_in : List Cell → List ℕ → List Past
pasts_in [] ns = []
pasts_in (x ∷ xs) [] = []
pasts_in (x ∷ xs) (n ∷ ns) = past_of x n ∷ pasts_in xs ns

-- the same by the places of all flows: of the flows that the site neither computes nor takes there is nothing
abbrev pub shown_in : SiteProgramView → List Cell → List Status
shown_in p shown = spread (flows_of p.plan.flat) Absent (places_of p.plan p.site) (statuses shown)

abbrev pub kept_in : SiteProgramView → List Cell → List ℕ → List Past
kept_in p lasts counts = spread (flows_of p.plan.flat) (past_of cells.Absent 0) (places_of p.plan p.site)
    (pasts_in lasts counts)

abbrev pub shown_of : SiteState → List Status
shown_of a = shown_in a.program a.shown.items

abbrev pub pasts_of : SiteState → List Past
pasts_of a = kept_in a.program a.lasts.items a.counts.items

-- how often a flow was present, one instant later
abbrev pub more_of : Cell → ℕ → ℕ
more_of cell n = cond (is_absent cell) n (n + 1)

-- a site's own part of its job, with cells and a log for each flow that it knows; it stands at the rank of
-- one of them, or behind the last
pub record IsSet (a : SiteState) : Type 0 where
  pub is_job : IsJob a.inputs.job
  pub plan_is : a.program.plan ≡ a.inputs.job.plan
  pub site_is : a.program.site ≡ a.inputs.site
  pub rank_is : a.place.value ≡ rank_at a.program a.row
  pub row_in : a.row ≤ length (places_of a.program.plan a.program.site)
  pub shown_fit : length a.shown.items ≡ length (places_of a.program.plan a.program.site)
  pub lasts_fit : length a.lasts.items ≡ length (places_of a.program.plan a.program.site)
  pub pasts_fit : length a.lasts.items ≡ length a.counts.items
  pub logs_fit : length a.logs.items ≡ length (places_of a.program.plan a.program.site)
  pub kept_are : AreKept a.program.plan a.program.site a.kept.items

-- the fault that a machine reports is one
abbrev pub ReportsFault : SiteState → Type 0
ReportsFault a = (fault : Fault) → a.fault ≡ Some fault → IsFaultAt a.inputs.job a.inputs.site fault

abbrev pub StandsAt : SiteState → Type 0
StandsAt a = Stands a.inputs.job a.inputs.site (shown_of a) (pasts_of a) a.instant a.place.value a.step
    (is_faulted a)

abbrev pub done_of : SiteState → ℕ
done_of a = items_before a.inputs.job (streams_of a.inputs.job) a.inputs.site a.instant a.place.value a.step

abbrev pub IsReadyAt : SiteState → Type 0
IsReadyAt a = IsReady a.inputs.job a.inputs.site a.instant a.place.value a.step

-- the parts that never change
pub record IsSameRun (a b : SiteState) : Type 0 where
  pub program_is : b.program ≡ a.program
  pub inputs_is : b.inputs ≡ a.inputs

-- falls with each move that does nothing
abbrev pub rest_of : SiteState → ℕ
rest_of a = (a.inputs.job.inputs.instants - a.instant) * (length a.program.plan.flat.order + 1) +
    (length a.program.plan.flat.order - a.place.value)

-- how many items a flow has, as the machine works it out: by whether its clock is open, whether it is the
-- site's own, whether the instant is one of the table, the number of links out, and whether there is one in
abbrev pub in_cell : Bool → Bool → Bool → ℕ → Bool → ℕ
in_cell true true true outs into = outs + 1
in_cell true true false outs into = outs
in_cell true false early outs into = cond into 1 0
in_cell false own early outs into = 0

abbrev pub clock_there : List Status → Option Flow → Option Bool
clock_there now None = None
clock_there now (Some flow) = clock_in now flow.clock

abbrev pub cell_size_of : Part → Option Flow → ℕ → ℕ → List Status → ℕ
cell_size_of part flow n t now = in_cell (not (nat_lt t n) || is_open (clock_there now flow)) part.own
    (nat_lt t n) (length part.to) (is_some part.from)

abbrev pub cell_size : SiteState → ℕ → ℕ
cell_size a i = cell_size_of (part_at a.program i)
    (flow_at a.program.plan.flat i) a.inputs.job.inputs.instants a.instant (shown_of a)

-- the flow of the number before is present, as the machine shows its clock
pub record IsOpenBefore (a : SiteState) : Type 0 where
  pub number : ℕ
  pub rank : ℕ
  pub before : number + 1 ≡ a.row
  pub there : slice_get (ranks_of a.program.plan a.program.site) number ≡ Some rank
  pub is : is_open (clock_there (shown_of a)
      (flow_at a.program.plan.flat (slice_index a.program.plan.flat.order rank))) ≡ true

-- the flow of the number before is absent at this instant
pub record IsShutBefore (a : SiteState) : Type 0 where
  pub number : ℕ
  pub rank : ℕ
  pub before : number + 1 ≡ a.row
  pub there : slice_get (ranks_of a.program.plan a.program.site) number ≡ Some rank
  pub is : is_open (clock_of_flow a.inputs.job.inputs (streams_of a.inputs.job)
      (flow_at a.inputs.job.plan.flat (slice_index a.inputs.job.plan.flat.order rank)) a.instant) ≡ false

-- the value that the machine of a site works out for flow i, where its input is given
abbrev pub outcome_of : Option Datum → List Status → List Past → ℕ → Option Flow → Outcome
outcome_of given shown pasts i None = Stuck
outcome_of given shown pasts i (Some flow) = value_of flow.form (view_in given shown pasts i)

-- what is given a flow of form Input c, where that input stands at the site
abbrev pub IsGiven : SiteState → Option Flow → Option Datum → Type 0
IsGiven a flow given = (c : ℕ) (f : Flow) → flow ≡ Some f → f.form ≡ Input c
    → stands a.inputs.job.plan c a.inputs.site ≡ true
    → given ≡ slice_get (column_of a.inputs.job.inputs c) a.instant

-- the outcome of flow i on what the machine holds
pub record Computes (a : SiteState) (i : ℕ) (flow : Option Flow) (outcome : Outcome) : Type 0 where
  pub given : Option Datum
  pub is_given : IsGiven a flow given
  pub is : outcome ≡ outcome_of given (shown_of a) (pasts_of a) i flow

abbrev pub count_kept : List Past → ℕ → ℕ
count_kept pasts i = unwrap_or (option_map (λ (x : Past). x.count) (slice_get pasts i)) 0

abbrev pub datum_shown : List Status → ℕ → Datum
datum_shown shown i = unwrap_or (datum_in shown i) Nil

-- what the machine of a site offers
abbrev pub offered_own : SiteState → ℕ → List ℕ → Next
offered_own a i outs =
    if nat_lt a.instant a.inputs.job.inputs.instants
    then (if a.step == 0
    then Local
    else Put (slice_index outs (a.step - 1)) (record {
      no = count_kept (pasts_of a) i;
      body = Value (datum_shown (shown_of a) i);
    }))
    else Put (slice_index outs a.step) (record { no = count_kept (pasts_of a) i; body = Close })

abbrev pub offered_part : SiteState → ℕ → Part → Next
offered_part a i part = if part.own then offered_own a i part.to else Take (unwrap_or part.from 0)

abbrev pub offered_at : SiteState → Option ℕ → Next
offered_at a None = Ended
offered_at a (Some i) = offered_part a i (part_at a.program i)

abbrev pub offered : SiteState → Next
offered a = if is_faulted a then Faulted else offered_at a (slice_get a.program.plan.flat.order a.place.value)

-- Item n of the script is what the machine offers; a put's message is the one of the list whose number is the
-- count of puts before it; at the end nothing stopped the script, or a computation of a broken flow was its
-- last item.
abbrev pub IsNext : JobView → ℕ → ℕ → Next → Type 0
IsNext job s n Local = (i : ℕ) × (t : ℕ) × (slice_get (script job (streams_of job) s) n ≡ Some (Compute i t))
IsNext job s n (Take l) = (slice_get (script job (streams_of job) s) n ≡ Some (Takes l))
    × (l < length job.plan.links)
IsNext job s n (Put l m) = (slice_get (script job (streams_of job) s) n ≡ Some (Puts l))
    × (slice_get (link_list job (streams_of job) l) (puts_before (system_of job) l s n) ≡ Some m)
IsNext job s n Ended = (n ≡ length (script job (streams_of job) s)) × HasNoStop job s
IsNext job s n Faulted = (n ≡ length (script job (streams_of job) s)) × (HasNoStop job s → ⊥)

-- how a site stands: ended or faulted exactly where it offers that, and its fault is one of the run's
-- solution; else cut
abbrev pub IsStanding : JobView → ℕ → ℕ → Standing → Type 0
IsStanding job s n StandsEnded = IsNext job s n Ended
IsStanding job s n (StandsFaulted fault) = IsNext job s n Faulted × IsFaultAt job s fault
IsStanding job s n Cut = (IsNext job s n Ended → ⊥) × (IsNext job s n Faulted → ⊥)

-- the next item is a computation, a put, a take of this message
abbrev pub IsLocalNext : JobView → ℕ → ℕ → Type 0
IsLocalNext job s n = (i : ℕ) × (t : ℕ) × (slice_get (script job (streams_of job) s) n ≡ Some (Compute i t))

abbrev pub IsPutNext : JobView → ℕ → ℕ → Type 0
IsPutNext job s n = (l : ℕ) × (slice_get (script job (streams_of job) s) n ≡ Some (Puts l))

abbrev pub IsTakeNext : JobView → ℕ → ℕ → Msg → Type 0
IsTakeNext job s n m = (l : ℕ) × (slice_get (script job (streams_of job) s) n ≡ Some (Takes l))
    × (slice_get (link_list job (streams_of job) l) (takes_before (system_of job) l s n) ≡ Some m)

abbrev pub with_body : List Status → ℕ → Body → List Status
with_body xs i (Value d) = slice_set xs i (Present d)
with_body xs i Close = xs
