-- The report of a plan as JSON data, and its text:
--
--
-- {"capacity":16,"flows":[{"clock":"","name":"x","site":"A","type":"int"},..],"links":[{"clock":"","flow":"c","from":"A","to":"B"},..],"sites":["A","B"]}
--
-- Flows are the main variables in order of place, links stand in order of number, sites too.
use Rattle.std.specs.Prelude.{ℕ, List, [], ◌∷◌, map, length, codes}
use Rattle.std.specs.List.{range_with_len}
use Rattle.serde_json.specs.Data.{Data, Items, number, unsigned, string, array, object, member, no_members}
use Rattle.serde_json.specs.View.{items_of}
use Rattle.serde_json.specs.Written.{compact_text}
use Rattle.luflow.specs.Rank.{row}
use Rattle.luflow.specs.Variables.{variable_name}
use Rattle.luworld.specs.declared.link.Link.{Link}
use Rattle.luworld.specs.Needs.{PlanView}
use Rattle.luplace_report.specs.Names.{site_name, type_of, clock_of, clock_text}

-- the names of these sites
abbrev pub sites_data : List (List ℕ) → List ℕ → Items
sites_data names sites = items_of (map (λ s. string (site_name names s)) sites)

-- the name of the one site at which a variable stands, or those of several
abbrev pub site_data : List (List ℕ) → List ℕ → Data
site_data names [] = array (sites_data names [])
site_data names (s ∷ []) = string (site_name names s)
site_data names (s ∷ t ∷ sites) = array (sites_data names (s ∷ t ∷ sites))

-- a main variable, by its number
abbrev pub flow_data : PlanView → ℕ → Data
flow_data plan v =
    object
    (member (codes "clock") (string (clock_text plan.flat (clock_of plan.flat v)))
    (member (codes "name") (string (variable_name plan.flat v))
    (member (codes "site") (site_data plan.names (row plan.placed v))
    (member (codes "type") (string (type_of plan.flat v)) no_members))))

abbrev pub flows_data : PlanView → Data
flows_data plan = array (items_of (map (flow_data plan) (range_with_len 0 (length plan.flat.variables))))

abbrev pub link_data : PlanView → Link → Data
link_data plan link =
    object
    (member (codes "clock") (string (clock_text plan.flat (clock_of plan.flat link.flow)))
    (member (codes "flow") (string (variable_name plan.flat link.flow))
    (member (codes "from") (string (site_name plan.names link.from))
    (member (codes "to") (string (site_name plan.names link.to)) no_members))))

abbrev pub links_data : PlanView → Data
links_data plan = array (items_of (map (link_data plan) plan.links))

abbrev pub names_data : List (List ℕ) → Data
names_data names = array (items_of (map string names))

abbrev pub report_data : PlanView → Data
report_data plan =
    object
    (member (codes "capacity") (number (unsigned plan.capacity))
    (member (codes "flows") (flows_data plan)
    (member (codes "links") (links_data plan)
    (member (codes "sites") (names_data plan.names) no_members))))

-- the text, without blanks
abbrev pub report_text : PlanView → List ℕ
report_text plan = compact_text (report_data plan)
