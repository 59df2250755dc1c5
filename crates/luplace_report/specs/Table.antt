-- A plan as four tables for a terminal, whose columns are aligned by blanks:
--
--   site  flows  items
--   A     6      8
--   B     2      4
--
--   link  flow  from  to  clock  most
--   0     c     A     B   -      1
--   1     s     A     B   c      1
--
--   link  why
--   0     c crosses A -> B since z at B reads it
--   1     s crosses A -> B since z at B reads it
--
--   run  by rows
--
-- Where sites feed each other, lines such as `cycle  A, B feed each other, and go in step` follow the last.
use Rattle.std.specs.Prelude.{◌≡◌, ◌<◌, ◌≤◌, Bool, true, ℕ, ◌+◌, ◌==◌, List, [], ◌∷◌, ◌++◌, length, map}
use Rattle.std.specs.Prelude.{count_by, codes, Option, Some, None, slice_get, slice_index}
use Rattle.std.specs.List.{range_with_len}
use Rattle.std.specs.Fmt.{decimal}
use Rattle.luflow.specs.declared.form.Clock.{Clock}
use Rattle.luflow.specs.declared.form.Clock.TheVariants.{Base, On}
use Rattle.luflow.specs.Program.{FlatView, flows_of}
use Rattle.luflow.specs.Variables.{variable_name}
use Rattle.luworld.specs.declared.link.Link.{Link}
use Rattle.luworld.specs.Systems.{puts}
use Rattle.luworld.specs.Needs.{PlanView, sites_of, stands, home}
use Rattle.luworld.specs.Outline.{round}
use Rattle.luworld.specs.Jobs.{JobView, IsJobView, outline, streams_of, carried}
use Rattle.luplace_report.specs.declared.cause.Cause.{Cause}
use Rattle.luplace_report.specs.declared.cause.Cause.TheVariants.{Reader, Clock as ClockCause}
use Rattle.luplace_report.specs.Names.{site_name, clock_of, clock_text}
use Rattle.luplace_report.specs.Cause.{cause_of}
use Rattle.luplace_report.specs.Aligned.{aligned}
use Rattle.luplace_report.specs.Cycles.{AreFed, cycle_rows}
use Rattle.luplace_report.specs.Way.{crew_rows, way_cells}
use Rattle.luplace.specs.Crews.{flows_at}
use Rattle.luplace.specs.declared.way.Way.{Way}
use Rattle.luplace.specs.Ways.{IsWayOf}

-- SITES

-- how many links a site receives from and sends over
abbrev pub received_count : PlanView → ℕ → ℕ
received_count plan s = count_by (λ (link : Link). link.to == s) plan.links

abbrev pub sent_count : PlanView → ℕ → ℕ
sent_count plan s = count_by (λ (link : Link). link.from == s) plan.links

-- how many items a site does at an instant at which all clocks are true: it computes its flows, takes and
-- puts
abbrev pub item_count : PlanView → ℕ → ℕ
item_count plan s = flows_at plan s + received_count plan s + sent_count plan s

abbrev pub site_cells : PlanView → ℕ → List (List ℕ)
site_cells plan s =
    site_name plan.names s ∷ decimal (flows_at plan s) ∷ decimal (item_count plan s) ∷ []

abbrev pub site_head : List (List ℕ)
site_head = codes "site" ∷ codes "flows" ∷ codes "items" ∷ []

abbrev pub site_rows : PlanView → List (List (List ℕ))
site_rows plan = site_head ∷ map (site_cells plan) (range_with_len 0 (sites_of plan))

-- LINKS

-- `c`, `not c` or `A(c)`, and `-` for the base clock
abbrev pub clock_cell : FlatView → Clock → List ℕ
clock_cell flat Base = codes "-"
clock_cell flat (On c d) = clock_text flat (On c d)

-- how many messages pass over a link at an instant at most: a link carries one variable
abbrev pub most_messages : ℕ
most_messages = 1

abbrev pub link_cells : PlanView → ℕ → Link → List (List ℕ)
link_cells plan l link =
    decimal l ∷ variable_name plan.flat link.flow ∷ site_name plan.names link.from
    ∷ site_name plan.names link.to ∷ clock_cell plan.flat (clock_of plan.flat link.flow)
    ∷ decimal most_messages ∷ []

-- the cells for a link, where there is one of the number
abbrev pub cells_of : (Link → List (List ℕ)) → Option Link → List (List ℕ)
cells_of cells None = []
cells_of cells (Some link) = cells link

abbrev pub link_head : List (List ℕ)
link_head = codes "link" ∷ codes "flow" ∷ codes "from" ∷ codes "to" ∷ codes "clock" ∷ codes "most" ∷ []

abbrev pub link_rows : PlanView → List (List (List ℕ))
link_rows plan = link_head ∷ map (λ l. cells_of (link_cells plan l) (slice_get plan.links l))
    (range_with_len 0 (length plan.links))

-- CAUSES

-- why a variable crosses to a site: a reader is named by the main variable in whose equation it stands
abbrev pub reason : PlanView → ℕ → Option Cause → List ℕ
reason plan s None = []
reason plan s (Some (Reader i)) = codes " since " ++ (variable_name plan.flat (slice_index plan.flat.owners i)
    ++ (codes " at " ++ (site_name plan.names s ++ codes " reads it")))
reason plan s (Some (ClockCause i)) =
    codes " since the clock of " ++ (variable_name plan.flat i ++ codes " needs it")

abbrev pub cause_text : PlanView → Link → List ℕ
cause_text plan link =
    variable_name plan.flat link.flow
    ++ (codes " crosses " ++ (site_name plan.names link.from
    ++ (codes " -> " ++ site_name plan.names link.to)))
    ++ reason plan link.to (cause_of plan link)

abbrev pub cause_cells : PlanView → ℕ → Link → List (List ℕ)
cause_cells plan l link = decimal l ∷ cause_text plan link ∷ []

abbrev pub cause_head : List (List ℕ)
cause_head = codes "link" ∷ codes "why" ∷ []

abbrev pub cause_rows : PlanView → List (List (List ℕ))
cause_rows plan = cause_head ∷ map (λ l. cells_of (cause_cells plan l) (slice_get plan.links l))
    (range_with_len 0 (length plan.links))

-- RUNS

-- in which way a run goes, whether one worker is likely to be quickest, and the cycles of sites
abbrev pub run_rows : PlanView → Way → List (List Bool) → List (List (List ℕ))
run_rows plan way fed =
    way_cells plan.flat way ∷ (crew_rows plan way ++ cycle_rows plan.names (sites_of plan) fed)

-- the tables of why links are there, and of runs
abbrev pub rest_text : PlanView → Way → List (List Bool) → List ℕ
rest_text plan way fed = aligned (cause_rows plan) ++ (codes "\n" ++ aligned (run_rows plan way fed))

-- the four tables, with an empty line between two
abbrev pub table_text : PlanView → Way → List (List Bool) → List ℕ
table_text plan way fed =
    aligned (site_rows plan) ++ (codes "\n" ++ (aligned (link_rows plan)
    ++ (codes "\n" ++ rest_text plan way fed)))

-- the text is that of the plan, its way, and which of its sites feed which
pub record IsTableOf (plan : PlanView) (text : List ℕ) : Type 0 where
  pub way : Way
  pub way_is : IsWayOf plan way
  pub fed : List (List Bool)
  pub fed_is : AreFed plan fed
  pub text_is : text ≡ table_text plan way fed

-- At an instant a site does that many items at most, and exactly as many where all clocks are true then.
pub record AreItems (job : JobView) (s t : ℕ) : Type 0 where
  pub at_most : length (round (outline job (streams_of job)) s t) ≤ item_count job.plan s
  pub all_true : t < job.inputs.instants → ((i : ℕ) → i < flows_of job.plan.flat
      → (outline job (streams_of job)).present i t ≡ true)
      → length (round (outline job (streams_of job)) s t) ≡ item_count job.plan s

abbrev pub ItemsLaw : Type 0
ItemsLaw = (job : JobView) (s t : ℕ) → IsJobView job → AreItems job s t

-- Over a link one message passes at an instant at most, and just one where its variable's clock is true then.
pub record AreMessages (job : JobView) (l t : ℕ) : Type 0 where
  pub at_most : count_by (puts l)
      (round (outline job (streams_of job)) (home job.plan (carried job.plan l)) t) ≤ most_messages
  pub present : t < job.inputs.instants
      → (outline job (streams_of job)).present (carried job.plan l) t ≡ true
      → count_by (puts l) (round (outline job (streams_of job)) (home job.plan (carried job.plan l)) t)
      ≡ most_messages

abbrev pub MessagesLaw : Type 0
MessagesLaw = (job : JobView) (l t : ℕ) → IsJobView job → l < length job.plan.links → AreMessages job l t
