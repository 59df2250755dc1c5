-- Cycles of sites: sites that feed each other, directly or through others. Their runs go in step:
--
--   cycle  A, B feed each other, and go in step
use Rattle.std.specs.Prelude.{◌≡◌, ◌↔◌, ◌<◌, ℕ, Bool, true, false, ◌&&◌, nat_eq, if◌then◌else◌, List, []}
use Rattle.std.specs.Prelude.{◌∷◌, ◌++◌, map, filter, flat_map, slice_index_or, codes}
use Rattle.std.specs.List.{range_with_len}
use Rattle.lubase.specs.Reach.{IsReached, link}
use Rattle.lubase.specs.declared.link.Link.{Link as Pair}
use Rattle.luworld.specs.declared.link.Link.{Link}
use Rattle.luworld.specs.Needs.{PlanView, sites_of}
use Rattle.luplace_report.specs.Names.{site_name}

-- the sites at the ends of a link
abbrev pub ends : Link → Pair
ends l = link l.from l.to

-- A site feeds those that links lead to from it, directly or through other sites; and itself.
abbrev pub Feeds : PlanView → ℕ → ℕ → Type 0
Feeds plan s t = IsReached (s ∷ []) (map ends plan.links) t

-- for each site a row of which sites it feeds
abbrev pub feeds : List (List Bool) → ℕ → ℕ → Bool
feeds fed s t = slice_index_or (slice_index_or fed s []) t false

abbrev pub AreFed : PlanView → List (List Bool) → Type 0
AreFed plan fed = (s t : ℕ) → s < sites_of plan → t < sites_of plan → (feeds fed s t ≡ true) ↔ Feeds plan s t

-- whether two sites feed each other
abbrev pub in_step : List (List Bool) → ℕ → ℕ → Bool
in_step fed s t = feeds fed s t && feeds fed t s

-- those of n sites that feed a site and are fed by it, in order, the site among them
abbrev pub group_of : ℕ → List (List Bool) → ℕ → List ℕ
group_of n fed s = filter (in_step fed s) (range_with_len 0 n)

-- the names of sites behind another one, and of sites, with a comma between two
abbrev pub further_sites : List (List ℕ) → List ℕ → List ℕ
further_sites names sites = flat_map (λ s. codes ", " ++ site_name names s) sites

abbrev pub site_list : List (List ℕ) → List ℕ → List ℕ
site_list names [] = []
site_list names (s ∷ sites) = site_name names s ++ further_sites names sites

abbrev pub cycle_text : List (List ℕ) → List ℕ → List ℕ
cycle_text names sites = site_list names sites ++ codes " feed each other, and go in step"

abbrev pub cycle_cells : List (List ℕ) → List ℕ → List (List ℕ)
cycle_cells names sites = codes "cycle" ∷ cycle_text names sites ∷ []

-- The row of a group of two sites or more, at its first site.
abbrev pub group_rows : List (List ℕ) → ℕ → List ℕ → List (List (List ℕ))
group_rows names s [] = []
group_rows names s (first ∷ []) = []
group_rows names s (first ∷ next ∷ others) =
    if nat_eq first s then cycle_cells names (first ∷ next ∷ others) ∷ [] else []

-- a row for each group, in order of its first site
abbrev pub cycle_rows : List (List ℕ) → ℕ → List (List Bool) → List (List (List ℕ))
cycle_rows names n fed = flat_map (λ s. group_rows names s (group_of n fed s)) (range_with_len 0 n)
