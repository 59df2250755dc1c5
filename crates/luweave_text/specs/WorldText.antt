-- What a replay prints.
use Rattle.std.specs.Prelude.{◌≡◌, ℕ, ◌+◌, true, false, List, [], ◌∷◌, ◌++◌, length, codes, flat_map}
use Rattle.std.specs.Prelude.{slice_get, Option, Some, None, unwrap_or, Result, IfOk, string_bytes}
use Rattle.std.specs.declared.string.String.{String}
use Rattle.std.specs.declared.alloc.Global.{Global}
use Rattle.std.specs.List.{range_with_len}
use Rattle.std.specs.Fmt.{decimal, signed_decimal}
use Rattle.luflow.specs.declared.data.Datum.{Datum}
use Rattle.luflow.specs.declared.data.Datum.TheVariants.{Int, Bool as Truth, Name, Nil}
use Rattle.luflow.specs.declared.data.Status.{Status}
use Rattle.luflow.specs.declared.data.Status.TheVariants.{Absent, Present}
use Rattle.luflow.specs.declared.message.Msg.{Msg}
use Rattle.luflow.specs.declared.message.Body.{Body}
use Rattle.luflow.specs.declared.message.Body.TheVariants.{Value, Close}
use Rattle.luflow.specs.Program.{FlatView}
use Rattle.luflow.specs.Operators.{kind_text}
use Rattle.luflow.specs.Types.{name_of, variable_names}
use Rattle.luworld.specs.declared.link.Link.{Link}
use Rattle.luworld.specs.Needs.{PlanView, sites_of}
use Rattle.luworld.specs.Systems.{done}
use Rattle.luworld.specs.Jobs.{outputs_of}
use Rattle.lusite.specs.Machine.{IsStanding}
use Rattle.lusite.specs.declared.report.Standing.{Standing}
use Rattle.lusite.specs.declared.report.Standing.TheVariants.{Ended, Faulted, Cut}
use Rattle.luworld.specs.WorldViews.{WorldView, IsCollected, taken_of, queued_of}
use Rattle.luflow.specs.Variables.{is_output_of, variable_name}

-- a space and a datum of a type with these names
abbrev pub datum_text : List (List ℕ) → Datum → List ℕ
datum_text names (Int n) = codes " " ++ signed_decimal n
datum_text names (Truth true) = codes " true"
datum_text names (Truth false) = codes " false"
datum_text names (Name k) = codes " " ++ name_of names k
datum_text names Nil = codes " nil"

-- a space and what a message says
abbrev pub body_text : List (List ℕ) → Body → List ℕ
body_text names (Value d) = datum_text names d
body_text names Close = codes " close"

-- The text has these bytes more, unless memory ran out.
abbrev pub Adds : {X E : Type 0} → Result X E → String Global → String Global → List ℕ → Type 0
Adds result old new more = IfOk result (λ _. string_bytes new ≡ string_bytes old ++ more)

-- a space and a status
abbrev pub status_text : List (List ℕ) → Status → List ℕ
status_text names Absent = codes " -"
status_text names (Present d) = datum_text names d

-- the name of a site
abbrev pub site_name : List (List ℕ) → ℕ → List ℕ
site_name names s = unwrap_or (slice_get names s) []

-- what passed a link: a space and what each message says
abbrev pub messages_text : List (List ℕ) → List Msg → List ℕ
messages_text names = flat_map (λ (m : Msg). body_text names m.body)

-- `link FLOW FROM TO taken`, what was taken, spelled by these names, and how many messages wait
abbrev pub carried_line : List ℕ → List (List ℕ) → List ℕ → List ℕ → List Msg → ℕ → List ℕ
carried_line flow names from to taken waiting =
    codes "link " ++ (flow ++ (codes " " ++ (from ++ (codes " " ++ (to ++ codes " taken")))))
    ++ (messages_text names taken ++ (codes " queued " ++ (decimal waiting ++ 10 ∷ [])))

-- that of a link of a plan
abbrev pub link_line : PlanView → Link → List Msg → ℕ → List ℕ
link_line plan link taken waiting =
    carried_line (variable_name plan.flat link.flow) (variable_names plan.flat link.flow)
    (site_name plan.names link.from) (site_name plan.names link.to) taken waiting

-- `site NAME`, and how the site stands
abbrev pub standing_text : FlatView → Standing → List ℕ
standing_text flat Ended = codes "ended"
standing_text flat Cut = codes "open"
standing_text flat (Faulted fault) = codes "faulted " ++ (variable_name flat fault.variable
    ++ (codes " " ++ (decimal fault.instant ++ (codes " " ++ kind_text fault.kind))))

abbrev pub site_line : PlanView → ℕ → Standing → List ℕ
site_line plan s standing = codes "site " ++ (site_name plan.names s ++ codes " ")
    ++ (standing_text plan.flat standing ++ 10 ∷ [])

-- `output NAME`, and its statuses, of a type with these names
abbrev pub statuses_text : List (List ℕ) → List Status → List ℕ
statuses_text names = flat_map (status_text names)

abbrev pub output_line : List ℕ → List (List ℕ) → List Status → List ℕ
output_line name names statuses = codes "output " ++ name ++ (statuses_text names statuses ++ 10 ∷ [])

-- the line of link l
abbrev pub line_of : WorldView → Option Link → ℕ → List ℕ
line_of w None l = []
line_of w (Some link) l = link_line w.job.plan link (taken_of w l) (length (queued_of w l))

-- the lines of the first n links
abbrev pub links_text : WorldView → ℕ → List ℕ
links_text w n = flat_map (λ l. line_of w (slice_get w.job.plan.links l) l) (range_with_len 0 n)

-- the lines of the first n sites, each as it stands
pub data AreSiteLines (w : WorldView) : ℕ → List ℕ → Type 0 where
  NoSites : AreSiteLines w 0 []
  OneSiteMore : (n : ℕ) (lines : List ℕ) (standing : Standing) → AreSiteLines w n lines
      → IsStanding w.job n (done w.dones n) standing → AreSiteLines w (n + 1)
      (lines ++ site_line w.job.plan n standing)

-- the lines of the outputs among the first v main variables, which are the first k outputs, each as far as it
-- was passed
pub data AreOutputLines (w : WorldView) : ℕ → ℕ → List ℕ → Type 0 where
  NoVariables : AreOutputLines w 0 0 []
  NoOutput : (v k : ℕ) (lines : List ℕ) → AreOutputLines w v k lines → is_output_of w.job.plan.flat v ≡ false
      → AreOutputLines w (v + 1) k lines
  OneOutputMore : (v k : ℕ) (lines : List ℕ) (statuses : List Status) → AreOutputLines w v k lines
      → slice_get (outputs_of w.job.plan) k ≡ Some v → IsCollected w.job w.dones k statuses
      → AreOutputLines w (v + 1) (k + 1) (lines ++ output_line (variable_name w.job.plan.flat v)
      (variable_names w.job.plan.flat v) statuses)

-- the text of a world: its links, its sites and its outputs, each in order
pub record IsWorldText (w : WorldView) (text : List ℕ) : Type 0 where
  pub site_lines : List ℕ
  pub output_lines : List ℕ
  pub outputs : ℕ
  pub sites_are : AreSiteLines w (sites_of w.job.plan) site_lines
  pub outputs_are : AreOutputLines w (length w.job.plan.flat.variables) outputs output_lines
  pub text_is : text ≡ links_text w (length w.job.plan.links) ++ (site_lines ++ output_lines)
