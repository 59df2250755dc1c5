-- The logs of a site's flows, by their numbers and by the places of all.
use Rattle.std.specs.Prelude.{◌≡◌, ℕ, ◌+◌, ◌<◌, ◌≤◌, Bool, true, ◌&&◌, nat_eq, nat_lt, cond, List, [], ◌∷◌}
use Rattle.std.specs.Prelude.{◌++◌, length, map, Option, Some, None, slice_get, slice_set, slice_index}
use Rattle.std.specs.Prelude.{vec_capacity, Vec}
use Rattle.std.specs.declared.alloc.Global.{Global}
use Rattle.luflow.specs.declared.data.Status.{Status}
use Rattle.luflow.specs.Program.{flows_of}
use Rattle.luflow.specs.Variables.{is_output_of}
use Rattle.luworld.specs.Needs.{home}
use Rattle.luworld.specs.WorldViews.{IsFirst}
use Rattle.luworld.specs.Jobs.{JobView}
use Rattle.lusite_program.specs.Programs.{SiteProgramView, part_at, places_of}
use Rattle.lusite_program.specs.Spread.{spread}

abbrev pub add_if : Bool → ℕ
add_if b = cond b 1 0

-- the log of one flow
abbrev pub Log : Type 0
Log = Vec Status Global

-- its statuses, and how many it has room for
pub record LogView : Type 0 where
  pub items : List Status
  pub room : ℕ

abbrev pub log_view : Log → LogView
log_view x = record { items = x.items; room = vec_capacity x }

abbrev pub no_log : LogView
no_log = record { items = []; room = 0 }

-- the logs of a site's flows, by the places of all flows
abbrev pub logs_in : SiteProgramView → List Log → List LogView
logs_in p logs = spread (flows_of p.plan.flat) no_log (places_of p.plan p.site) (map log_view logs)

-- whether a site reports a flow
abbrev pub is_wanted : JobView → ℕ → ℕ → Bool
is_wanted job s i = nat_eq (home job.plan i) s && is_output_of job.plan.flat i

-- the log of flow i has its first m statuses, and room for all
pub record IsRow (job : JobView) (i : ℕ) (logs : List LogView) (m : ℕ) : Type 0 where
  pub row : LogView
  pub there : slice_get logs i ≡ Some row
  pub known : IsFirst job i row.items m
  pub room : job.inputs.instants ≤ row.room

-- at instant t the flows of rank below e have one status more than those from e on
abbrev pub IsLogged : JobView → ℕ → List LogView → ℕ → ℕ → Type 0
IsLogged job s logs t e =
    (q : ℕ) → q < length job.plan.flat.order → is_wanted job s (slice_index job.plan.flat.order q) ≡ true
    → IsRow job (slice_index job.plan.flat.order q) logs (t + add_if (nat_lt t job.inputs.instants
    && nat_lt q e))

-- one status more in log i
pub record IsNoted (logs : List LogView) (i : ℕ) (x : LogView) (status : Status)
    (logs' : List LogView) : Type 0 where
  pub row : LogView
  pub is : logs' ≡ slice_set logs i row
  pub items : row.items ≡ x.items ++ status ∷ []
  pub capacity : row.room ≡ x.room

abbrev pub row_items : Option Log → List Status
row_items None = []
row_items (Some row) = row.items

-- a log that was moved out by its number; nothing where there is none
abbrev pub IsDrawn : Option ℕ → List Log → Log → Type 0
IsDrawn None logs row = row.items ≡ []
IsDrawn (Some i) logs row = row.items ≡ row_items (slice_get logs i)

abbrev pub view_items : Option LogView → List Status
view_items None = []
view_items (Some x) = x.items

-- what the logs have of a flow that is reported
abbrev pub log_in : SiteProgramView → List LogView → Option ℕ → List Status
log_in p logs None = []
log_in p logs (Some i) = cond (part_at p i).reported (view_items (slice_get logs i)) []

pub record IsNewRow (wanted : Bool) (instants : ℕ) (row : Log) : Type 0 where
  pub empty : row.items ≡ []
  pub room : wanted ≡ true → instants ≤ vec_capacity row
