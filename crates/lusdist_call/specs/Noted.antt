-- What goes to the error stream beside a replay.
use Rattle.std.specs.Prelude.{◌≡◌, ℕ, Bool, true, false, List, [], ◌++◌, if◌then◌else◌}
use Rattle.luworld.specs.Needs.{sites_of}
use Rattle.luworld.specs.Jobs.{JobView}
use Rattle.luworld.specs.WorldViews.{WorldView}
use Rattle.luweave_text.specs.declared.form.TraceForm.{TraceForm}
use Rattle.luweave_text.specs.declared.form.TraceForm.TheVariants as traces
use Rattle.luweave_text.specs.declared.form.Tracing.{Tracing}
use Rattle.luweave_text.specs.Traced.{IsTraced}
use Rattle.luweave_text.specs.Stray.{stray_text}
use Rattle.luweave_text.specs.Waits.{AreStandLines}
use Rattle.lusdist_shell.specs.declared.request.ReplayRequest.{ReplayRequest}
use Rattle.lusdist_shell.specs.declared.request.TurnsSource.{TurnsSource}
use Rattle.lusdist_shell.specs.declared.request.TurnsSource.TheVariants.{File}
use Rattle.lusdist_shell.specs.declared.request.TurnsForm.{TurnsForm}
use Rattle.lusdist_shell.specs.declared.request.TurnsForm.TheVariants as forms

-- how a request asks turns to be reported that are reported in this form: messages alone, blocked turns, and
-- between which instants
abbrev pub tracing_of : ReplayRequest → TraceForm → Tracing
tracing_of request form = record {
  form = form;
  messages = request.messages;
  blocked = request.blocked;
  from = request.from;
  to = request.to;
}

-- What a replay notes of its turns: a line for each that is reported, or a chart of them, where that is asked
-- for; else nothing.
abbrev pub AreNotesOf : JobView → List ℕ → ReplayRequest → TurnsForm → List ℕ → List ℕ → Type 0
AreNotesOf job turns request forms.Lines dones notes =
    IsTraced job turns request.finish (tracing_of request traces.Lines) dones notes
AreNotesOf job turns request forms.Chart dones notes =
    IsTraced job turns request.finish (tracing_of request traces.Chart) dones notes
AreNotesOf job turns request forms.Nothing dones notes = notes ≡ []

-- the line of the first turn of a schedule that is of no site, behind its path; random turns are all of sites
abbrev pub stray_of : TurnsSource → ℕ → List ℕ → List ℕ
stray_of (File path) sites turns = stray_text path.now sites turns
stray_of _ sites turns = []

-- what it warns of where words are asked for: of a turn that is of no site
abbrev pub warnings_of : ReplayRequest → JobView → List ℕ → List ℕ
warnings_of request job turns =
    if request.explain then stray_of request.source (sites_of job.plan) turns else []

-- What it notes of its sites: where words are asked for, a line for each that is open, with what it waits
-- for; else nothing.
abbrev pub AreStandsOf : Bool → WorldView → List ℕ → Type 0
AreStandsOf true world notes = AreStandLines world (sites_of world.job.plan) notes
AreStandsOf false world notes = notes ≡ []

-- the notes of the turns of a replay, then its warnings, then the notes of its sites at the end
pub record AreReplayNotes (request : ReplayRequest) (job : JobView) (turns : List ℕ) (world : WorldView)
    (notes : List ℕ) : Type 0 where
  pub of_turns : List ℕ
  pub of_sites : List ℕ
  pub turns_are : AreNotesOf job turns request request.turns world.dones of_turns
  pub sites_are : AreStandsOf request.explain world of_sites
  pub notes_are : notes ≡ of_turns ++ (warnings_of request job turns ++ of_sites)
