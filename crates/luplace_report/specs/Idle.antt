-- The sites of a plan at which nothing stands.
use Rattle.std.specs.Prelude.{ℕ, nat_eq, if◌then◌else◌, List, [], ◌++◌, codes, flat_map}
use Rattle.std.specs.List.{range_with_len}
use Rattle.luworld.specs.Needs.{PlanView, sites_of}
use Rattle.luplace_report.specs.Names.{site_name}
use Rattle.luplace.specs.Crews.{flows_at}

-- the line of a site, behind the path of the placement
abbrev pub idle_line : List ℕ → PlanView → ℕ → List ℕ
idle_line path plan s =
    path ++ (codes ": W05 IdleSite: No variable stands at the site `"
    ++ (site_name plan.names s ++ codes "`.\n"))

-- a line where no flow stands at the site
abbrev pub idle_row : List ℕ → PlanView → ℕ → List ℕ
idle_row path plan s = if nat_eq (flows_at plan s) 0 then idle_line path plan s else []

-- the lines of all of them, in order of sites
abbrev pub idle_text : List ℕ → PlanView → List ℕ
idle_text path plan = flat_map (idle_row path plan) (range_with_len 0 (sites_of plan))
