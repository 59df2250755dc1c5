-- Marks: for each flow whether a site needs it, and the needs and links that are read off them.
use Rattle.std.specs.Prelude.{◌≡◌, ◌↔◌, ℕ, ◌<◌, ◌≤◌, All, Bool, true, false, not, ◌&&◌, List, [], ◌∷◌, length}
use Rattle.std.specs.Prelude.{map, filter, flat_map, Option, Some, None, slice_get, slice_set, slice_index}
use Rattle.std.specs.Prelude.{unwrap_or}
use Rattle.std.specs.List.{range_with_len}
use Rattle.luflow.specs.declared.form.Flow.{Flow}
use Rattle.luflow.specs.Program.{flows_of, flow_at, places, clock_reads}
use Rattle.luworld.specs.declared.link.Link.{Link}
use Rattle.luworld.specs.Needs.{PlanView, IsNeeded, stands, is_in}
use Rattle.luflow.specs.Rank.{row}

abbrev pub is_set : Option Bool → Bool
is_set None = false
is_set (Some b) = b

-- whether a place is marked
abbrev pub is_marked : List Bool → ℕ → Bool
is_marked marks place = is_set (slice_get marks place)

-- the marks, with these places marked too
abbrev pub marked_all : List ℕ → List Bool → List Bool
marked_all [] marks = marks
marked_all (x ∷ xs) marks = marked_all xs (slice_set marks x true)

-- the variable of the clock of a flow
abbrev pub clock_at : Option Flow → List ℕ
clock_at None = []
clock_at (Some flow) = clock_reads flow.clock

-- The marks of a site after its own flows below place i: all that they name, and nothing that the site
-- doesn't need.
pub record AreOwnMarks (plan : PlanView) (site i : ℕ) (marks : List Bool) : Type 0 where
  pub long : length marks ≡ flows_of plan.flat
  pub sound : (r : ℕ) → is_marked marks r ≡ true → IsNeeded plan site r
  pub operands : (j : ℕ) (flow : Flow) → j < i → stands plan j site ≡ true → flow_at plan.flat j ≡ Some flow
      → All (λ r. is_marked marks r ≡ true) (places flow.form)
  pub clocks : (j : ℕ) (flow : Flow) → j < i → stands plan j site ≡ true → flow_at plan.flat j ≡ Some flow
      → All (λ r. is_marked marks r ≡ true) (clock_reads flow.clock)

-- The marks of a site when the ranks from p on are closed: whatever of them is marked, its clock variable is
-- marked.
pub record AreClosedMarks (plan : PlanView) (site p : ℕ) (marks : List Bool) : Type 0 where
  pub own : AreOwnMarks plan site (flows_of plan.flat) marks
  pub closed : (q : ℕ) (flow : Flow) → p ≤ q → q < length plan.flat.order
      → is_marked marks (slice_index plan.flat.order q) ≡ true
      → flow_at plan.flat (slice_index plan.flat.order q) ≡ Some flow → All (λ r. is_marked marks r ≡ true)
      (clock_reads flow.clock)

-- the marks of a site: what it needs, and nothing else
pub record AreMarks (plan : PlanView) (site : ℕ) (marks : List Bool) : Type 0 where
  pub long : length marks ≡ flows_of plan.flat
  pub are : (r : ℕ) → (is_marked marks r ≡ true) ↔ IsNeeded plan site r

-- the marks of a site among those of all sites
abbrev pub marks_at : List (List Bool) → ℕ → List Bool
marks_at rows site = unwrap_or (slice_get rows site) []

-- the marks of each site
pub record AreAllMarks (plan : PlanView) (count : ℕ) (rows : List (List Bool)) : Type 0 where
  pub long : length rows ≡ count
  pub each : (site : ℕ) → site < count → AreMarks plan site (marks_at rows site)

-- the places that are marked, in order
abbrev pub marked_places : List Bool → List ℕ
marked_places marks = filter (is_marked marks) (range_with_len 0 (length marks))

-- the sites of a flow, given for each flow its main variable and for each main variable its sites
abbrev pub sites_at : List ℕ → List (List ℕ) → ℕ → List ℕ
sites_at owners placed place = row placed (slice_index owners place)

-- whether a site takes a main variable: it needs it and doesn't compute it
abbrev pub is_taken : List (List Bool) → List ℕ → List (List ℕ) → ℕ → ℕ → Bool
is_taken rows owners placed variable site = is_marked (marks_at rows site) variable
    && not (is_in site (sites_at owners placed variable))

abbrev pub link_of : List ℕ → List (List ℕ) → ℕ → ℕ → Link
link_of owners placed variable site =
    record { flow = variable; from = slice_index (sites_at owners placed variable) 0; to = site }

-- the links of a main variable to the sites below a number
abbrev pub some_links : List (List Bool) → List ℕ → List (List ℕ) → ℕ → ℕ → List Link
some_links rows owners placed variable count = map (link_of owners placed variable)
    (filter (is_taken rows owners placed variable) (range_with_len 0 count))

-- the links of the main variables below a number
abbrev pub links_below : List (List Bool) → List ℕ → List (List ℕ) → ℕ → List Link
links_below rows owners placed count = flat_map (λ v. some_links rows owners placed v (length rows))
    (range_with_len 0 count)
