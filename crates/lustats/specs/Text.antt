-- What a run counted, as lines for a person:
--
--   site A: put 1000, waited for room 12; took 0, waited for a message 0
--   site B: put 0, waited for room 0; took 1000, waited for a message 31
--   link x A -> B: passed 1000, at most 64 of 64 in it
--   run: instants 1000, seconds 0.012345, instants a second 81004
use Rattle.std.specs.Prelude.{◌≡◌, ℕ, ◌*◌, ◌/◌, ◌%◌, ◌==◌, if◌then◌else◌, List, [], ◌++◌, length, flat_map}
use Rattle.std.specs.Prelude.{codes, Option, Some, None, slice_get, unwrap_or, Result, IfOk, string_bytes}
use Rattle.std.specs.declared.string.String.{String}
use Rattle.std.specs.declared.alloc.Global.{Global}
use Rattle.std.specs.List.{range_with_len}
use Rattle.std.specs.Fmt.{decimal}
use Rattle.luflow.specs.Variables.{variable_name}
use Rattle.luworld.specs.declared.link.Link.{Link}
use Rattle.luworld.specs.Needs.{PlanView, sites_of}
use Rattle.lustats.specs.declared.counts.SiteCounts.{SiteCounts}
use Rattle.lustats.specs.declared.counts.LinkCounts.{LinkCounts}
use Rattle.lustats.specs.declared.counts.Counts.{Counts}

-- what a site and a link counted, by number
abbrev pub no_site : SiteCounts
no_site = record { put = 0; waited_full = 0; taken = 0; waited_empty = 0 }

abbrev pub site_counts : Counts → ℕ → SiteCounts
site_counts counts s = unwrap_or (slice_get counts.sites.items s) no_site

abbrev pub no_link : LinkCounts
no_link = record { passed = 0; most = 0 }

abbrev pub link_counts : Counts → ℕ → LinkCounts
link_counts counts l = unwrap_or (slice_get counts.links.items l) no_link

-- the name of a site, by its number
abbrev pub site_name : List (List ℕ) → ℕ → List ℕ
site_name names site = unwrap_or (slice_get names site) []

-- the line of a site with this name
abbrev pub counted_site : List ℕ → SiteCounts → List ℕ
counted_site name c =
    codes "site " ++ (name ++ (codes ": put " ++ (decimal c.put ++ (codes ", waited for room "
    ++ (decimal c.waited_full ++ (codes "; took " ++ (decimal c.taken ++ (codes ", waited for a message "
    ++ (decimal c.waited_empty ++ codes "\n")))))))))

abbrev pub site_line : PlanView → Counts → ℕ → List ℕ
site_line plan counts s = counted_site (site_name plan.names s) (site_counts counts s)

-- `x A -> B`
abbrev pub link_ends : PlanView → Link → List ℕ
link_ends plan link = variable_name plan.flat link.flow ++ (codes " "
    ++ (site_name plan.names link.from ++ (codes " -> " ++ site_name plan.names link.to)))

-- how many messages passed over a link of this capacity, and how many were in it
abbrev pub counted_link : ℕ → LinkCounts → List ℕ
counted_link capacity c =
    codes ": passed " ++ (decimal c.passed ++ (codes ", at most " ++ (decimal c.most ++ (codes " of "
    ++ (decimal capacity ++ codes " in it\n")))))

abbrev pub link_line : PlanView → Counts → ℕ → Link → List ℕ
link_line plan counts l link =
    codes "link " ++ (link_ends plan link ++ counted_link plan.capacity (link_counts counts l))

abbrev pub line_of : (Link → List ℕ) → Option Link → List ℕ
line_of line None = []
line_of line (Some link) = line link

abbrev pub link_line_at : PlanView → Counts → ℕ → List ℕ
link_line_at plan counts l = line_of (link_line plan counts l) (slice_get plan.links l)

-- microseconds as seconds, with six digits behind the point
abbrev pub digit : ℕ → ℕ → List ℕ
digit unit n = decimal (n / unit % 10)

abbrev pub fraction : ℕ → List ℕ
fraction n = digit 100000 n ++ (digit 10000 n ++ (digit 1000 n ++ (digit 100 n ++ (digit 10 n ++ digit 1 n))))

abbrev pub seconds : ℕ → List ℕ
seconds micros = decimal (micros / 1000000) ++ (codes "." ++ fraction micros)

-- how many instants a second, rounded down, where the run took time
abbrev pub rate : ℕ → ℕ → List ℕ
rate micros instants = if micros == 0 then []
    else codes ", instants a second " ++ decimal (instants * 1000000 / micros)

abbrev pub run_head : ℕ → List ℕ
run_head instants = codes "run: instants " ++ (decimal instants ++ codes ", seconds ")

abbrev pub run_line : ℕ → ℕ → List ℕ
run_line micros instants =
    run_head instants ++ (seconds micros ++ (rate micros instants ++ codes "\n"))

-- a line for each site, for each link, and for the run
abbrev pub stats_text : PlanView → Counts → ℕ → ℕ → List ℕ
stats_text plan counts micros instants =
    flat_map (site_line plan counts) (range_with_len 0 (sites_of plan))
    ++ (flat_map (link_line_at plan counts) (range_with_len 0 (length plan.links))
    ++ run_line micros instants)

-- The text has these bytes more, unless memory ran out.
abbrev pub Adds : {X E : Type 0} → Result X E → String Global → String Global → List ℕ → Type 0
Adds result old new more = IfOk result (λ _. string_bytes new ≡ string_bytes old ++ more)
