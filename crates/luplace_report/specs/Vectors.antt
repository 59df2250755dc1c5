-- Worked reports. The first program is
--
--   node main(x: int; c: bool) returns (y: int; z: int when c); var s: int when c; let s = x when c; z = 2 *
-- s; y = x -> pre y + x; tel
--
-- with z at site B and all else at site A.
use Rattle.std.specs.Prelude.{◌≡◌, ℕ, Bool, true, false, List, [], ◌∷◌, ◌++◌, map, flat_map, codes, Some, None}
use Rattle.luflow.specs.declared.data.Datum.TheVariants.{Bool as Truth}
use Rattle.luflow.specs.declared.form.Clock.TheVariants.{On}
use Rattle.luflow.specs.declared.form.Flow.{Flow}
use Rattle.luflow.specs.declared.form.Form.{Form}
use Rattle.luflow.specs.declared.form.Form.TheVariants.{Input, Arrow, Binary, When, Pre}
use Rattle.lutree.specs.declared.expr.BinaryOperator.TheVariants.{Add, Multiply}
use Rattle.lutree.specs.declared.program.Kind.TheVariants.{Int as Ints}
use Rattle.luflow.specs.Program.{FlatView}
use Rattle.luflow.specs.Vectors.{int_flow, truth_flow, number, sampled_sum, three_ways}
use Rattle.luworld.specs.Needs.{PlanView}
use Rattle.luworld.specs.RunVectors.{sampled, shared_run, link_of}
use Rattle.luworld.specs.PlanVectors.{handed}
use Rattle.luplace_report.specs.declared.cause.Cause.TheVariants.{Reader, Clock}
use Rattle.luplace_report.specs.Cause.{cause_of}
use Rattle.luplace_report.specs.Report.{report_text}
use Rattle.luplace_report.specs.Table.{table_text}
use Rattle.luplace_report.specs.Cycles.{cycle_rows}
use Rattle.luplace_report.specs.Way.{way_cells}
use Rattle.luplace_report.specs.Graph.{graph_text}
use Rattle.luplace.specs.declared.way.Way.TheVariants.{Rows, Parted, Nil}

-- each of these texts on a line of its own
abbrev pub lines : List (List ℕ) → List ℕ
lines = flat_map (λ line. line ++ codes "\n")

-- a flow of ints, where c is false
abbrev pub other_flow : Form → Flow
other_flow form = record { form = form; clock = On 1 (Truth false); kind = Ints }

-- the same with s and z where c is false
abbrev pub turned_flat : FlatView
turned_flat =
    record {
      types = [];
      flows =
          int_flow (Input 0) ∷ truth_flow (Input 1)
          ∷ int_flow (Arrow 0 7) ∷ other_flow (Binary Multiply 5 4) ∷ other_flow (When 0)
          ∷ other_flow (number 2)
          ∷ int_flow (Pre 2) ∷ int_flow (Binary Add 6 0) ∷ [];
      order = sampled_sum.order;
      owners = sampled_sum.owners;
      variables = sampled_sum.variables;
    }

abbrev pub turned : PlanView
turned =
    record {
      flat = turned_flat;
      names = sampled.plan.names;
      placed = sampled.plan.placed;
      needs = sampled.plan.needs;
      links = sampled.plan.links;
      capacity = 1;
    }

-- a choice among the names of m, Up, Down and Halt, with z, which is there where m is Down, at site B
abbrev pub moded : PlanView
moded =
    record {
      flat = three_ways;
      names = sampled.plan.names;
      placed = (0 ∷ []) ∷ (0 ∷ []) ∷ (0 ∷ []) ∷ (0 ∷ []) ∷ (1 ∷ []) ∷ [];
      needs = (0 ∷ 1 ∷ 4 ∷ 5 ∷ 6 ∷ 7 ∷ 8 ∷ []) ∷ (0 ∷ 1 ∷ []) ∷ [];
      links = link_of 0 0 1 ∷ link_of 1 0 1 ∷ link_of 4 1 0 ∷ [];
      capacity = 16;
    }

-- As JSON: one site for each variable; c at both sites, so that s alone crosses; s and z on `not c`; an
-- enumeration and a clock on a name.
pub record JsonsAre : Type 0 where
  pub one_site : report_text sampled.plan ≡ codes
      "{\"capacity\":16,\"flows\":[{\"clock\":\"\",\"name\":\"x\",\"site\":\"A\",\"type\":\"int\"},{\"clock\":\"\",\"name\":\"c\",\"site\":\"A\",\"type\":\"bool\"},{\"clock\":\"\",\"name\":\"y\",\"site\":\"A\",\"type\":\"int\"},{\"clock\":\"c\",\"name\":\"z\",\"site\":\"B\",\"type\":\"int\"},{\"clock\":\"c\",\"name\":\"s\",\"site\":\"A\",\"type\":\"int\"}],\"links\":[{\"clock\":\"\",\"flow\":\"c\",\"from\":\"A\",\"to\":\"B\"},{\"clock\":\"c\",\"flow\":\"s\",\"from\":\"A\",\"to\":\"B\"}],\"sites\":[\"A\",\"B\"]}"
  pub two_sites : report_text shared_run.plan ≡ codes
      "{\"capacity\":16,\"flows\":[{\"clock\":\"\",\"name\":\"x\",\"site\":\"A\",\"type\":\"int\"},{\"clock\":\"\",\"name\":\"c\",\"site\":[\"A\",\"B\"],\"type\":\"bool\"},{\"clock\":\"\",\"name\":\"y\",\"site\":\"A\",\"type\":\"int\"},{\"clock\":\"c\",\"name\":\"z\",\"site\":\"B\",\"type\":\"int\"},{\"clock\":\"c\",\"name\":\"s\",\"site\":\"A\",\"type\":\"int\"}],\"links\":[{\"clock\":\"c\",\"flow\":\"s\",\"from\":\"A\",\"to\":\"B\"}],\"sites\":[\"A\",\"B\"]}"
  pub opposite : report_text turned ≡ codes
      "{\"capacity\":1,\"flows\":[{\"clock\":\"\",\"name\":\"x\",\"site\":\"A\",\"type\":\"int\"},{\"clock\":\"\",\"name\":\"c\",\"site\":\"A\",\"type\":\"bool\"},{\"clock\":\"\",\"name\":\"y\",\"site\":\"A\",\"type\":\"int\"},{\"clock\":\"not c\",\"name\":\"z\",\"site\":\"B\",\"type\":\"int\"},{\"clock\":\"not c\",\"name\":\"s\",\"site\":\"A\",\"type\":\"int\"}],\"links\":[{\"clock\":\"\",\"flow\":\"c\",\"from\":\"A\",\"to\":\"B\"},{\"clock\":\"not c\",\"flow\":\"s\",\"from\":\"A\",\"to\":\"B\"}],\"sites\":[\"A\",\"B\"]}"
  pub by_names : report_text moded ≡ codes
      "{\"capacity\":16,\"flows\":[{\"clock\":\"\",\"name\":\"m\",\"site\":\"A\",\"type\":\"t\"},{\"clock\":\"\",\"name\":\"x\",\"site\":\"A\",\"type\":\"int\"},{\"clock\":\"\",\"name\":\"y\",\"site\":\"A\",\"type\":\"int\"},{\"clock\":\"\",\"name\":\"b\",\"site\":\"A\",\"type\":\"bool\"},{\"clock\":\"Down(m)\",\"name\":\"z\",\"site\":\"B\",\"type\":\"int\"}],\"links\":[{\"clock\":\"\",\"flow\":\"m\",\"from\":\"A\",\"to\":\"B\"},{\"clock\":\"\",\"flow\":\"x\",\"from\":\"A\",\"to\":\"B\"},{\"clock\":\"Down(m)\",\"flow\":\"z\",\"from\":\"B\",\"to\":\"A\"}],\"sites\":[\"A\",\"B\"]}"

-- Three sites: x and c at A, s and z at B, y = current s at C, where c is needed since s is on it.
pub record CausesAre : Type 0 where
  pub sampled_causes : map (cause_of sampled.plan) sampled.plan.links ≡ Some (Reader 3) ∷ Some (Reader 3) ∷ []
  pub shared_causes : map (cause_of shared_run.plan) shared_run.plan.links ≡ Some (Reader 3) ∷ []
  pub handed_causes : map (cause_of handed.plan) handed.plan.links ≡ Some (Reader 4) ∷ Some (Reader 2)
      ∷ Some (Clock 4) ∷ Some (Reader 1) ∷ []
  pub moded_causes : map (cause_of moded) moded.links ≡ Some (Reader 4) ∷ Some (Reader 4) ∷ Some (Reader 2)
      ∷ []
  -- what a site doesn't need doesn't cross to it
  pub no_cause : cause_of sampled.plan (link_of 2 0 1) ≡ None

-- which sites feed which: A feeds B; A feeds B and C, and B feeds C; A and B feed each other
abbrev pub one_way : List (List Bool)
one_way = (true ∷ true ∷ []) ∷ (false ∷ true ∷ []) ∷ []

abbrev pub down : List (List Bool)
down = (true ∷ true ∷ true ∷ []) ∷ (false ∷ true ∷ true ∷ []) ∷ (false ∷ false ∷ true ∷ []) ∷ []

abbrev pub both_ways : List (List Bool)
both_ways = (true ∷ true ∷ []) ∷ (true ∷ true ∷ []) ∷ []

-- of five sites the second and the last feed each other, and the first and the fourth; all feed the third
abbrev pub two_groups : List (List Bool)
two_groups =
    (true ∷ false ∷ true ∷ true ∷ false ∷ [])
    ∷ (false ∷ true ∷ true ∷ false ∷ true ∷ [])
    ∷ (false ∷ false ∷ true ∷ false ∷ false ∷ [])
    ∷ (true ∷ false ∷ true ∷ true ∷ false ∷ [])
    ∷ (false ∷ true ∷ true ∷ false ∷ true ∷ [])
    ∷ []

pub record TablesAre : Type 0 where
  pub one_site : table_text sampled.plan Rows one_way ≡ lines
      (codes "site  flows  items"
      ∷ codes "A     6      8"
      ∷ codes "B     2      4"
      ∷ []
      ∷ codes "link  flow  from  to  clock  most"
      ∷ codes "0     c     A     B   -      1"
      ∷ codes "1     s     A     B   c      1"
      ∷ []
      ∷ codes "link  why"
      ∷ codes "0     c crosses A -> B since z at B reads it"
      ∷ codes "1     s crosses A -> B since z at B reads it"
      ∷ []
      ∷ codes "run  by rows"
      ∷ [])
  pub two_sites : table_text shared_run.plan Rows one_way ≡ lines
      (codes "site  flows  items"
      ∷ codes "A     6      7"
      ∷ codes "B     3      4"
      ∷ []
      ∷ codes "link  flow  from  to  clock  most"
      ∷ codes "0     s     A     B   c      1"
      ∷ []
      ∷ codes "link  why"
      ∷ codes "0     s crosses A -> B since z at B reads it"
      ∷ []
      ∷ codes "run  by rows"
      ∷ [])
  pub three_sites : table_text handed.plan Rows down ≡ lines
      (codes "site  flows  items"
      ∷ codes "A     5      8"
      ∷ codes "B     4      7"
      ∷ codes "C     1      3"
      ∷ []
      ∷ codes "link  flow  from  to  clock  most"
      ∷ codes "0     x     A     B   -      1"
      ∷ codes "1     c     A     B   -      1"
      ∷ codes "2     c     A     C   -      1"
      ∷ codes "3     s     B     C   c      1"
      ∷ []
      ∷ codes "link  why"
      ∷ codes "0     x crosses A -> B since s at B reads it"
      ∷ codes "1     c crosses A -> B since z at B reads it"
      ∷ codes "2     c crosses A -> C since the clock of s needs it"
      ∷ codes "3     s crosses B -> C since y at C reads it"
      ∷ []
      ∷ codes "run  by rows"
      ∷ [])
  pub by_names : table_text moded Rows both_ways ≡ lines
      (codes "site  flows  items"
      ∷ codes "A     8      11"
      ∷ codes "B     1      4"
      ∷ []
      ∷ codes "link  flow  from  to  clock    most"
      ∷ codes "0     m     A     B   -        1"
      ∷ codes "1     x     A     B   -        1"
      ∷ codes "2     z     B     A   Down(m)  1"
      ∷ []
      ∷ codes "link  why"
      ∷ codes "0     m crosses A -> B since z at B reads it"
      ∷ codes "1     x crosses A -> B since z at B reads it"
      ∷ codes "2     z crosses B -> A since y at A reads it"
      ∷ []
      ∷ codes "run    by rows"
      ∷ codes "cycle  A, B feed each other, and go in step"
      ∷ [])
  -- groups in order of their first sites
  pub groups : cycle_rows (codes "P" ∷ codes "Q" ∷ codes "R" ∷ codes "S" ∷ codes "T" ∷ []) 5 two_groups
      ≡ (codes "cycle" ∷ codes "P, S feed each other, and go in step" ∷ [])
      ∷ (codes "cycle" ∷ codes "Q, T feed each other, and go in step" ∷ [])
      ∷ []
  -- where a run goes instant by instant
  pub parted : way_cells sampled_sum (Parted (2 ∷ 4 ∷ [])) ≡ codes "run"
      ∷ codes "instant by instant: a cycle of y, s is parted over sites" ∷ []
  pub one_nil : way_cells sampled_sum (Nil (2 ∷ [])) ≡ codes "run"
      ∷ codes "instant by instant: y may have no value at first, and is sent" ∷ []
  pub some_nil : way_cells sampled_sum (Nil (2 ∷ 3 ∷ 4 ∷ [])) ≡ codes "run"
      ∷ codes "instant by instant: y, z, s may have no value at first, and are sent" ∷ []

pub record GraphsAre : Type 0 where
  pub one_site : graph_text sampled.plan ≡ lines
      (codes "digraph plan {"
      ∷ codes "  subgraph cluster_0 {"
      ∷ codes "    label=\"A\";"
      ∷ codes "    s0 [shape=point];"
      ∷ codes "    s0v0 [label=\"x\"];"
      ∷ codes "    s0v1 [label=\"c\"];"
      ∷ codes "    s0v2 [label=\"y\"];"
      ∷ codes "    s0v4 [label=\"s\"];"
      ∷ codes "  }"
      ∷ codes "  subgraph cluster_1 {"
      ∷ codes "    label=\"B\";"
      ∷ codes "    s1 [shape=point];"
      ∷ codes "    s1v3 [label=\"z\"];"
      ∷ codes "  }"
      ∷ codes "  s0v1 -> s1v3 [label=\"c\"];"
      ∷ codes "  s0v4 -> s1v3 [label=\"s when c\"];"
      ∷ codes "}"
      ∷ [])
  pub two_sites : graph_text shared_run.plan ≡ lines
      (codes "digraph plan {"
      ∷ codes "  subgraph cluster_0 {"
      ∷ codes "    label=\"A\";"
      ∷ codes "    s0 [shape=point];"
      ∷ codes "    s0v0 [label=\"x\"];"
      ∷ codes "    s0v1 [label=\"c\"];"
      ∷ codes "    s0v2 [label=\"y\"];"
      ∷ codes "    s0v4 [label=\"s\"];"
      ∷ codes "  }"
      ∷ codes "  subgraph cluster_1 {"
      ∷ codes "    label=\"B\";"
      ∷ codes "    s1 [shape=point];"
      ∷ codes "    s1v1 [label=\"c\"];"
      ∷ codes "    s1v3 [label=\"z\"];"
      ∷ codes "  }"
      ∷ codes "  s0v4 -> s1v3 [label=\"s when c\"];"
      ∷ codes "}"
      ∷ [])
  pub three_sites : graph_text handed.plan ≡ lines
      (codes "digraph plan {"
      ∷ codes "  subgraph cluster_0 {"
      ∷ codes "    label=\"A\";"
      ∷ codes "    s0 [shape=point];"
      ∷ codes "    s0v0 [label=\"x\"];"
      ∷ codes "    s0v3 [label=\"c\"];"
      ∷ codes "  }"
      ∷ codes "  subgraph cluster_1 {"
      ∷ codes "    label=\"B\";"
      ∷ codes "    s1 [shape=point];"
      ∷ codes "    s1v2 [label=\"z\"];"
      ∷ codes "    s1v4 [label=\"s\"];"
      ∷ codes "  }"
      ∷ codes "  subgraph cluster_2 {"
      ∷ codes "    label=\"C\";"
      ∷ codes "    s2 [shape=point];"
      ∷ codes "    s2v1 [label=\"y\"];"
      ∷ codes "  }"
      ∷ codes "  s0v0 -> s1v4 [label=\"x\"];"
      ∷ codes "  s0v3 -> s1v2 [label=\"c\"];"
      ∷ codes "  s0v3 -> s2 [label=\"c\"];"
      ∷ codes "  s1v4 -> s2v1 [label=\"s when c\"];"
      ∷ codes "}"
      ∷ [])
  pub by_names : graph_text moded ≡ lines
      (codes "digraph plan {"
      ∷ codes "  subgraph cluster_0 {"
      ∷ codes "    label=\"A\";"
      ∷ codes "    s0 [shape=point];"
      ∷ codes "    s0v0 [label=\"m\"];"
      ∷ codes "    s0v1 [label=\"x\"];"
      ∷ codes "    s0v2 [label=\"y\"];"
      ∷ codes "    s0v3 [label=\"b\"];"
      ∷ codes "  }"
      ∷ codes "  subgraph cluster_1 {"
      ∷ codes "    label=\"B\";"
      ∷ codes "    s1 [shape=point];"
      ∷ codes "    s1v4 [label=\"z\"];"
      ∷ codes "  }"
      ∷ codes "  s0v0 -> s1v4 [label=\"m\"];"
      ∷ codes "  s0v1 -> s1v4 [label=\"x\"];"
      ∷ codes "  s1v4 -> s0v2 [label=\"z when Down(m)\"];"
      ∷ codes "}"
      ∷ [])

pub record ReportVectors : Type 0 where
  pub jsons : JsonsAre
  pub causes : CausesAre
  pub tables : TablesAre
  pub graphs : GraphsAre
