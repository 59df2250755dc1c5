-- A plan of a flat program: where its flows stand, what a site needs, and which links there are.
use Rattle.std.specs.Prelude.{◌≡◌, ◌↔◌, ℕ, ◌<◌, ◌≤◌, Bool, true, not, ◌&&◌, ◌==◌, List, [], length, map}
use Rattle.std.specs.Prelude.{filter, flat_map, Some, slice_get, slice_index, Contains, unwrap_or}
use Rattle.std.specs.List.{range_with_len, list_any}
use Rattle.lubase.specs.Limits.{most_sites, most_capacity}
use Rattle.luflow.specs.declared.form.Flow.{Flow}
use Rattle.luflow.specs.Program.{FlatView, flow_at, places, clock_reads}
use Rattle.luflow.specs.Flats.{IsFlat}
use Rattle.luflow.specs.Rank.{row}
use Rattle.luworld.specs.declared.link.Link.{Link}

-- A flat program, the names of the sites, for each main variable the sites at which it stands, in order, what
-- each site needs, in order of place, the links in order of number, and the capacity of every link.
pub record PlanView : Type 0 where
  pub flat : FlatView
  pub names : List (List ℕ)
  pub placed : List (List ℕ)
  pub needs : List (List ℕ)
  pub links : List Link
  pub capacity : ℕ

abbrev pub sites_of : PlanView → ℕ
sites_of plan = length plan.names

-- the sites of a flow are those of the main variable in whose equation it stands
abbrev pub flow_sites : PlanView → ℕ → List ℕ
flow_sites plan i = row plan.placed (slice_index plan.flat.owners i)

abbrev pub is_in : ℕ → List ℕ → Bool
is_in x xs = list_any (λ y. y == x) xs

-- whether a flow is computed at a site
abbrev pub stands : PlanView → ℕ → ℕ → Bool
stands plan i s = is_in s (flow_sites plan i)

-- the site that sends a flow and reports it: the least of its sites
abbrev pub home : PlanView → ℕ → ℕ
home plan i = slice_index (flow_sites plan i) 0

-- The needs of a site: the least set that holds what its flows name, operands of `pre` included, and, with
-- each of its flows and each flow of the set, the variable of its clock.
pub data IsNeeded (plan : PlanView) (s : ℕ) : ℕ → Type 0 where
  read_there : (i r : ℕ) (flow : Flow) → stands plan i s ≡ true → flow_at plan.flat i ≡ Some flow
      → Contains (places flow.form) r → IsNeeded plan s r
  clock_there : (i c : ℕ) (flow : Flow) → stands plan i s ≡ true → flow_at plan.flat i ≡ Some flow
      → Contains (clock_reads flow.clock) c → IsNeeded plan s c
  clock_needed : (r c : ℕ) (flow : Flow) → IsNeeded plan s r → flow_at plan.flat r ≡ Some flow
      → Contains (clock_reads flow.clock) c → IsNeeded plan s c

-- whether a site needs a flow that isn't computed there
abbrev pub is_linked : PlanView → ℕ → ℕ → Bool
is_linked plan v s = is_in v (row plan.needs s) && not (stands plan v s)

abbrev pub links_of_variable : PlanView → ℕ → List Link
links_of_variable plan v = map (λ s. record { flow = v; from = home plan v; to = s })
    (filter (is_linked plan v) (range_with_len 0 (sites_of plan)))

-- One link for each main variable and each site that needs it and at which it doesn't stand, numbered by the
-- variable's place and then by the receiving site.
abbrev pub all_links : PlanView → List Link
all_links plan = flat_map (links_of_variable plan) (range_with_len 0 (length plan.flat.variables))

-- the sites of one main variable: at least one, in order, each a site
pub record IsPlacedAt (sites : ℕ) (xs : List ℕ) : Type 0 where
  pub some : 0 < length xs
  pub inside : (k : ℕ) → k < length xs → slice_index xs k < sites
  pub in_order : (j k : ℕ) → j < k → k < length xs → slice_index xs j < slice_index xs k

-- The plan's parts are what they are said to be.
pub record IsPlan (plan : PlanView) : Type 0 where
  pub flat_is : IsFlat plan.flat
  pub some_sites : 0 < sites_of plan
  pub few_sites : sites_of plan ≤ most_sites
  pub room : 1 ≤ plan.capacity
  pub small : plan.capacity ≤ most_capacity
  pub placed_len : length plan.placed ≡ length plan.flat.variables
  pub placed_is : (v : ℕ) → v < length plan.flat.variables → IsPlacedAt (sites_of plan) (row plan.placed v)
  pub together : (v : ℕ) → v < length plan.flat.variables → flow_sites plan v ≡ row plan.placed v
  pub needs_len : length plan.needs ≡ sites_of plan
  pub needs_are : (s r : ℕ) → s < sites_of plan → Contains (row plan.needs s) r ↔ IsNeeded plan s r
  pub links_are : plan.links ≡ all_links plan
