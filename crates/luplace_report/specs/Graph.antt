-- A plan as a graph in the language of Graphviz: a box for each site, with a node for each variable that
-- stands there and a point for the site itself; an edge for each link, from its variable in the sending
-- site's box to the variable that reads it in the receiving site's box, or to that site's point where none
-- does.
--
--   digraph plan {
--     subgraph cluster_0 {
--       label="A";
--       s0 [shape=point];
--       s0v1 [label="c"];
--       s0v4 [label="s"];
--     }
--     subgraph cluster_1 {
--       label="B";
--       s1 [shape=point];
--       s1v3 [label="z"];
--     }
--     s0v1 -> s1v3 [label="c"];
--     s0v4 -> s1v3 [label="s when c"];
--   }
--
-- Names are identifiers, so they need no escapes between quotes.
use Rattle.std.specs.Prelude.{◌≡◌, ◌<◌, true, Contains, ℕ, List, [], ◌++◌, cond, length, flat_map, codes}
use Rattle.std.specs.Prelude.{Option, Some, None, slice_index}
use Rattle.std.specs.List.{range_with_len}
use Rattle.std.specs.Fmt.{decimal}
use Rattle.luflow.specs.declared.form.Clock.{Clock}
use Rattle.luflow.specs.declared.form.Clock.TheVariants.{Base, On}
use Rattle.luflow.specs.Program.{FlatView}
use Rattle.luflow.specs.Variables.{variable_name}
use Rattle.luworld.specs.declared.link.Link.{Link}
use Rattle.luworld.specs.Needs.{PlanView, IsPlan, sites_of, stands}
use Rattle.luplace_report.specs.declared.cause.Cause.{Cause}
use Rattle.luplace_report.specs.declared.cause.Cause.TheVariants.{Reader, Clock as ClockCause}
use Rattle.luplace_report.specs.Names.{site_name, clock_of, clock_text}
use Rattle.luplace_report.specs.Cause.{cause_of}

-- BOXES

-- the node of a variable in a site's box, where it stands there
abbrev pub variable_node : PlanView → ℕ → ℕ → List ℕ
variable_node plan s v = cond (stands plan v s)
    (codes "    s"
    ++ (decimal s
    ++ (codes "v" ++ (decimal v ++ (codes " [label=\"" ++ (variable_name plan.flat v ++ codes "\"];\n"))))))
    []

abbrev pub variable_nodes : PlanView → ℕ → List ℕ
variable_nodes plan s = flat_map (variable_node plan s) (range_with_len 0 (length plan.flat.variables))

-- the line that opens a box, its label, and the point of its site
abbrev pub opening : ℕ → List ℕ
opening s = codes "  subgraph cluster_" ++ (decimal s ++ codes " {\n")

abbrev pub label : PlanView → ℕ → List ℕ
label plan s = codes "    label=\"" ++ (site_name plan.names s ++ codes "\";\n")

abbrev pub point : ℕ → List ℕ
point s = codes "    s" ++ (decimal s ++ codes " [shape=point];\n")

abbrev pub box : PlanView → ℕ → List ℕ
box plan s = opening s ++ (label plan s ++ (point s ++ (variable_nodes plan s ++ codes "  }\n")))

abbrev pub boxes : PlanView → List ℕ
boxes plan = flat_map (box plan) (range_with_len 0 (sites_of plan))

-- EDGES

-- ` when c`, ` when not c` or ` when A(c)`, and nothing for the base clock
abbrev pub when_text : FlatView → Clock → List ℕ
when_text flat Base = []
when_text flat (On c d) = codes " when " ++ clock_text flat (On c d)

-- where an edge ends in a site's box: at the variable in whose equation the reader stands, or at the site's
-- point
abbrev pub head : PlanView → ℕ → Option Cause → List ℕ
head plan s None = codes "s" ++ decimal s
head plan s (Some (Reader i)) =
    codes "s" ++ (decimal s ++ (codes "v" ++ decimal (slice_index plan.flat.owners i)))
head plan s (Some (ClockCause i)) = codes "s" ++ decimal s

abbrev pub edge : PlanView → Link → List ℕ
edge plan link =
    codes "  s" ++ (decimal link.from ++ (codes "v" ++ (decimal link.flow ++ codes " -> ")))
    ++ (head plan link.to (cause_of plan link)
    ++ ((codes " [label=\"" ++ variable_name plan.flat link.flow)
    ++ (when_text plan.flat (clock_of plan.flat link.flow) ++ codes "\"];\n")))

abbrev pub edges : PlanView → List ℕ
edges plan = flat_map (edge plan) plan.links

abbrev pub graph_text : PlanView → List ℕ
graph_text plan = codes "digraph plan {\n" ++ (boxes plan ++ (edges plan ++ codes "}\n"))

-- where a head is drawn: at a variable that stands in the box, or at the point of a site
abbrev pub IsHead : PlanView → ℕ → Cause → Type 0
IsHead plan s (Reader i) = (slice_index plan.flat.owners i < length plan.flat.variables)
    × (stands plan (slice_index plan.flat.owners i) s ≡ true)
IsHead plan s (ClockCause i) = s < sites_of plan

-- both ends of a link's edge are drawn: its variable stands in the sending site's box
pub record IsDrawn (plan : PlanView) (link : Link) : Type 0 where
  pub main : link.flow < length plan.flat.variables
  pub tail : stands plan link.flow link.from ≡ true
  pub cause : Cause
  pub caused : cause_of plan link ≡ Some cause
  pub head_is : IsHead plan link.to cause

abbrev pub EdgeLaw : Type 0
EdgeLaw = (plan : PlanView) (link : Link) → IsPlan plan → Contains plan.links link → IsDrawn plan link
