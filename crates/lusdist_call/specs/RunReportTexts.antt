-- What a world reports, and the text of it.
use Rattle.std.specs.Prelude.{◌≡◌, ℕ, List, [], ◌∷◌, ◌++◌, length, map, flat_map, codes, Option, Some, None}
use Rattle.std.specs.Prelude.{slice_get}
use Rattle.std.specs.List.{range_with_len}
use Rattle.std.specs.Fmt.{decimal}
use Rattle.luflow.specs.declared.message.Msg.{Msg}
use Rattle.luflow.specs.Program.{FlatView}
use Rattle.luflow.specs.Operators.{kind_text}
use Rattle.luflow.specs.Types.{variable_names}
use Rattle.luflow.specs.Variables.{variable_name}
use Rattle.luworld.specs.declared.link.Link.{Link}
use Rattle.luworld.specs.Needs.{sites_of}
use Rattle.luworld.specs.Systems.{done}
use Rattle.luworld.specs.Jobs.{outputs_of}
use Rattle.luworld.specs.WorldViews.{WorldView, IsCollected, taken_of, queued_of}
use Rattle.lusource.specs.RunReports.{LinkLine, Ending, ended, open_yet, faulted, SiteLine, OutputLine}
use Rattle.lusource.specs.RunReports.{RunReport}
use Rattle.lusite.specs.Machine.{IsStanding}
use Rattle.lusite.specs.declared.report.Standing.{Standing}
use Rattle.lusite.specs.declared.report.Standing.TheVariants.{Ended, Faulted, Cut}
use Rattle.luweave_text.specs.WorldText.{body_text, site_name, output_line}

-- `link VARIABLE FROM TO taken`, a space and a value or `close` for each message, `queued` and a number
abbrev pub link_text : LinkLine → List ℕ
link_text link =
    codes "link "
    ++ (link.variable ++ (codes " " ++ (link.from ++ (codes " " ++ (link.to ++ codes " taken")))))
    ++ (flat_map (body_text link.names) link.taken ++ (codes " queued " ++ (decimal link.waiting ++ 10 ∷ [])))

-- `ended`, `open`, or `faulted VARIABLE INSTANT KIND`
abbrev pub ending_text : Ending → List ℕ
ending_text ended = codes "ended"
ending_text open_yet = codes "open"
ending_text (faulted variable instant kind) =
    codes "faulted " ++ (variable ++ (codes " " ++ (decimal instant ++ (codes " " ++ kind_text kind))))

-- `site NAME` and how it stands
abbrev pub site_text : SiteLine → List ℕ
site_text site = codes "site " ++ (site.name ++ codes " ") ++ (ending_text site.ending ++ 10 ∷ [])

-- `output NAME`, a space and a value or `-` for each status
abbrev pub output_text : OutputLine → List ℕ
output_text output = output_line output.name output.names output.statuses

-- a line for each link, each site and each output, in order
abbrev pub run_report_text : RunReport → List ℕ
run_report_text reported = flat_map link_text reported.links ++ (flat_map site_text reported.sites
    ++ flat_map output_text reported.outputs)

-- what a world reports of one of its links, and of all
abbrev pub link_line : WorldView → Link → ℕ → LinkLine
link_line w link l =
    record {
      variable = variable_name w.job.plan.flat link.flow;
      names = variable_names w.job.plan.flat link.flow;
      from = site_name w.job.plan.names link.from;
      to = site_name w.job.plan.names link.to;
      taken = map (λ (m : Msg). m.body) (taken_of w l);
      waiting = length (queued_of w l);
    }

abbrev pub link_there : WorldView → Option Link → ℕ → List LinkLine
link_there w None l = []
link_there w (Some link) l = link_line w link l ∷ []

abbrev pub link_lines : WorldView → List LinkLine
link_lines w = flat_map (λ l. link_there w (slice_get w.job.plan.links l) l)
    (range_with_len 0 (length w.job.plan.links))

abbrev pub ending_of : FlatView → Standing → Ending
ending_of flat Ended = ended
ending_of flat Cut = open_yet
ending_of flat (Faulted fault) = faulted (variable_name flat fault.variable) fault.instant fault.kind

-- what a world reports of one of its sites, as it stands, and of one of its outputs, as far as it was
-- collected
pub record IsSiteReported (w : WorldView) (s : ℕ) (site : SiteLine) : Type 0 where
  pub standing : Standing
  pub stands : IsStanding w.job s (done w.dones s) standing
  pub named : site.name ≡ site_name w.job.plan.names s
  pub ends : site.ending ≡ ending_of w.job.plan.flat standing

pub record IsOutputReported (w : WorldView) (k : ℕ) (output : OutputLine) : Type 0 where
  pub variable : ℕ
  pub there : slice_get (outputs_of w.job.plan) k ≡ Some variable
  pub named : output.name ≡ variable_name w.job.plan.flat variable
  pub spelled : output.names ≡ variable_names w.job.plan.flat variable
  pub collected : IsCollected w.job w.dones k output.statuses

-- what a world reports: of all its links, its sites and its outputs, each in order
pub record IsReportedBy (w : WorldView) (reported : RunReport) : Type 0 where
  pub links : reported.links ≡ link_lines w
  pub sites_len : length reported.sites ≡ sites_of w.job.plan
  pub sites : (s : ℕ) (site : SiteLine) → slice_get reported.sites s ≡ Some site → IsSiteReported w s site
  pub outputs_len : length reported.outputs ≡ length (outputs_of w.job.plan)
  pub outputs : (k : ℕ) (output : OutputLine) → slice_get reported.outputs k ≡ Some output
      → IsOutputReported w k output
