-- What each command answers: a text, notes beside it, and a dump, by what the files gave.
use Rattle.std.specs.Prelude.{◌≡◌, ℕ, Bool, true, false, if◌then◌else◌, List, [], ◌∷◌, ◌++◌, Option, Some}
use Rattle.std.specs.Prelude.{None, string_bytes, option_map}
use Rattle.lutree.specs.declared.program.Program.{Program}
use Rattle.lutree.specs.Places.{places_view}
use Rattle.lutree.specs.Tree.{ProgramTree, program_view}
use Rattle.lustat_warn.specs.declared.warning.Warning.{Warning}
use Rattle.lustat_warn.specs.Warnings.{AreWarnings}
use Rattle.luexplain.specs.Warned.{AreWarned}
use Rattle.luflow.specs.Program.{FlatView}
use Rattle.luflow.specs.Tables.{OutputColumn}
use Rattle.luworld.specs.Needs.{PlanView}
use Rattle.luworld.specs.Jobs.{JobView}
use Rattle.luworld.specs.WorldViews.{WorldView}
use Rattle.luweave.specs.Headline.{IsFaithful}
use Rattle.lusource.specs.RunReports.{RunReport, IsTrueOf}
use Rattle.luweave_text.specs.WorldText.{IsWorldText}
use Rattle.luweave_text.specs.Waves.{AreOutputSignals}
use Rattle.luchart.specs.Signals.{Signal}
use Rattle.lusyn.specs.Places.{ArePlacesOf}
use Rattle.lusyn.specs.Texts.{SpellsText, IsReadBack}
use Rattle.lusyn_printer.specs.Canonical.{canonical}
use Rattle.lucore.specs.Result.{IsFlatOf}
use Rattle.luplace_report.specs.Report.{report_text}
use Rattle.luplace_report.specs.Table.{IsTableOf}
use Rattle.luplace_report.specs.Graph.{graph_text}
use Rattle.luplace_report.specs.Idle.{idle_text}
use Rattle.lutab.specs.Outputs.{output_text}
use Rattle.lusdist_shell.specs.Files.{FileFacts}
use Rattle.lusdist_shell.specs.declared.request.CheckRequest.{CheckRequest}
use Rattle.lusdist_shell.specs.declared.request.PlanForm.{PlanForm}
use Rattle.lusdist_shell.specs.declared.request.PlanForm.TheVariants.{Report, Table, Graph}
use Rattle.lusdist_shell.specs.declared.request.PlanRequest.{PlanRequest}
use Rattle.lusdist_shell.specs.declared.request.ReplayRequest.{ReplayRequest}
use Rattle.lusdist_shell.specs.declared.request.TurnsForm.TheVariants.{Nothing}
use Rattle.lusdist_shell.specs.declared.request.RunRequest.{RunRequest}
use Rattle.lusdist_shell.specs.declared.request.Request.{Request}
use Rattle.lusdist_shell.specs.declared.request.Request.TheVariants.{Check, Eval, New, Plan, Replay}
use Rattle.lusdist_shell.specs.declared.request.Request.TheVariants.{Run as AsksRun, Explain}
use Rattle.lusdist_shell.specs.Request.{IsAskedBy}
use Rattle.lusdist_call.specs.declared.reply.Reply.{Reply}
use Rattle.lusdist_call.specs.Asked.{IsPlanFor, IsJobFor, IsAskedFor, IsWorldOf}
use Rattle.lusdist_call.specs.Begun.{IsBegun}
use Rattle.lusdist_call.specs.Counted.{AreStats}
use Rattle.lusdist_call.specs.Evaluated.{AreOutputsOf, IsEvaluated}
use Rattle.lusdist_call.specs.Explained.{code_in, explanation}
use Rattle.lusdist_call.specs.Files.{dump_for, replay_path, run_path}
use Rattle.lusdist_call.specs.Mistakes.{replay_mistake, run_mistake}
use Rattle.lusdist_call.specs.Noted.{AreReplayNotes}
use Rattle.lusdist_call.specs.RunReportTexts.{run_report_text, IsReportedBy}
use Rattle.clap.specs.Walk.{texts}
use Rattle.lusdist_call.specs.Violations.{AreViolationsOf, has_lines, output_flows, unobserved, violations}
use Rattle.lusdist_call.specs.Waved.{run_dump, IsWorldDump, AreSignalsTrue}

-- what goes to the error stream beside a check: where they are asked for, all warnings of the program that
-- the bytes spell, a line each, in order; else nothing
pub data AreCheckNotes (request : CheckRequest) (bytes notes : List ℕ) : Type 0 where
  unasked : request.warn ≡ false → notes ≡ [] → AreCheckNotes request bytes notes
  warned : (program : Program) (warnings : List Warning) → request.warn ≡ true
      → SpellsText bytes (program_view program) → ArePlacesOf bytes (places_view program)
      → AreWarnings program request.main.now warnings
      → AreWarned request.program.now bytes warnings notes → AreCheckNotes request bytes notes

-- the text of a check of what a request asks for: the program that the file's bytes spell keeps all rules and
-- has a flat program, and the text is its canonical one, which spells that program too if it isn't longer
-- than a text may be
pub record IsChecked (gives : FileFacts) (request : CheckRequest) (text notes : List ℕ) : Type 0 where
  pub program : List ℕ
  pub tree : ProgramTree
  pub program_given : gives request.program.now (Some program)
  pub spelled : SpellsText program tree
  pub flat : FlatView
  pub flat_is : IsFlatOf tree request.main.now flat
  pub text_is : text ≡ canonical tree
  pub again : IsReadBack text tree
  pub notes_are : AreCheckNotes request program notes

-- a plan, in the form that is asked for: the report on a line, the tables, which report the way that the
-- plan's runs go, or the graph
abbrev pub IsPlanText : PlanForm → PlanView → List ℕ → Type 0
IsPlanText Report plan text = text ≡ report_text plan ++ 10 ∷ []
IsPlanText Table plan text = IsTableOf plan text
IsPlanText Graph plan text = text ≡ graph_text plan

-- what goes to the error stream beside a plan: where warnings are asked for, the sites at which nothing
-- stands, a line each; else nothing
abbrev pub plan_notes : PlanRequest → PlanView → List ℕ
plan_notes request plan = if request.warn then idle_text request.place.now plan else []

-- the text of the plan that a request asks for
pub record IsPlanned (gives : FileFacts) (request : PlanRequest) (text notes : List ℕ) : Type 0 where
  pub plan : PlanView
  pub asked_for : IsPlanFor gives request.program.now request.place.now request.main.now plan
  pub text_is : IsPlanText request.form plan text
  pub notes_are : notes ≡ plan_notes request plan

-- The world of a job after its turns, which keeps what the source says: its text, the notes of what the turns
-- did, of why its sites stand still, and of outputs that are observed, and its dump.
pub record IsPrinted (request : ReplayRequest) (job : JobView) (turns text notes : List ℕ) (violated : Bool)
    (dump : Option (List ℕ)) : Type 0 where
  pub world : WorldView
  pub world_is : IsWorldOf job turns request.finish world
  pub faithful : IsFaithful world.job world.dones
  pub text_is : IsWorldText world text
  pub did : List ℕ
  pub did_are : AreReplayNotes request job turns world did
  pub told : List ℕ
  pub told_are : AreViolationsOf (texts request.always.now) world told
  pub notes_is : notes ≡ did ++ told
  pub violated_is : violated ≡ has_lines told
  pub dump_is : IsWorldDump request.main.now world (replay_path request) dump

-- What a replay of what a request asks for gives: text, notes and dump of the world of its job after its
-- turns. What the text reports of links, sites and outputs, and the dump of outputs, is true of the
-- program that the file spells, at the table that the file says: for each of its solutions.
pub record IsReplayed (gives : FileFacts) (request : ReplayRequest) (text notes : List ℕ) (violated : Bool)
    (dump : Option (List ℕ)) : Type 0 where
  pub meant : replay_mistake request ≡ None
  pub job : JobView
  pub turns : List ℕ
  pub asked_for : IsAskedFor gives request job turns
  pub observed : unobserved job.plan.flat.variables (texts request.always.now) ≡ None
  pub printed : IsPrinted request job turns text notes violated dump
  pub reported : RunReport
  pub reported_by : IsReportedBy printed.world reported
  pub spelled : text ≡ run_report_text reported
  pub is_true : IsTrueOf asked_for.job_for.job_is.flat.tree request.main.now job.inputs reported
  pub dump_true : (signals : List Signal) → AreOutputSignals printed.world signals
      → AreSignalsTrue asked_for.job_for.job_is.flat.tree request.main.now job.inputs signals

-- What a run of what a request asks for gives: the table of the outputs of the program at the input table,
-- and the dump of the same outputs, where one is asked for. Each is what every solution of the program
-- that the file spells gives that variable at all instants, and no operator is a fault. The notes are what is
-- told of what it counted, where that is asked for, and of outputs that are observed.
pub record IsRan (gives : FileFacts) (request : RunRequest) (text notes : List ℕ)
    (dump : Option (List ℕ)) : Type 0 where
  pub meant : run_mistake request ≡ None
  pub job : JobView
  pub asked_for : IsJobFor gives request.program.now request.place.now request.table.now request.main.now job
  pub outputs : List OutputColumn
  pub are_outputs : AreOutputsOf asked_for.job_is.flat.tree request.main.now job.plan.flat job.inputs outputs
  pub text_is : text ≡ output_text job.plan.flat outputs
  pub dump_is : dump ≡ dump_for (run_path request) (run_dump request.main.now job.plan outputs)
  pub observed : unobserved job.plan.flat.variables (texts request.always.now) ≡ None
  pub stats : List ℕ
  pub are_stats : AreStats request.stats job stats
  pub told : List ℕ
  pub told_is : told ≡ violations (texts request.always.now) (output_flows job.plan.flat outputs)
  pub notes_are : notes ≡ stats ++ told

-- nothing is violated, and there is no dump
abbrev pub IsPlain : Bool → Option (List ℕ) → Type 0
IsPlain violated dump = (violated ≡ false) × (dump ≡ None)

-- the text of what a request asks for, the notes that go to the error stream, whether these tell that an
-- output that is observed is violated, and the dump
abbrev pub IsAnswer : FileFacts → Request → List ℕ → List ℕ → Bool → Option (List ℕ) → Type 0
IsAnswer gives (Check request) text notes violated dump =
    IsChecked gives request text notes × IsPlain violated dump
IsAnswer gives (Eval request) text notes violated dump =
    IsEvaluated gives request text notes dump × (violated ≡ has_lines notes)
IsAnswer gives (New request) text notes violated dump =
    IsBegun gives request text × (notes ≡ []) × IsPlain violated dump
IsAnswer gives (Plan request) text notes violated dump =
    IsPlanned gives request text notes × IsPlain violated dump
IsAnswer gives (Replay request) text notes violated dump = IsReplayed gives request text notes violated dump
IsAnswer gives (AsksRun request) text notes violated dump =
    (ran : IsRan gives request text notes dump) × (violated ≡ has_lines ran.told)
IsAnswer gives (Explain request) text notes violated dump =
    (explanation (code_in request) ≡ Some text) × (notes ≡ []) × IsPlain violated dump

-- a reply has the text, the notes and the dump of what a request asks for
abbrev pub IsReplyTo : FileFacts → Request → Reply → Type 0
IsReplyTo gives request reply =
    IsAnswer gives request (string_bytes reply.text) (string_bytes reply.notes) reply.violated
    (option_map string_bytes reply.dump)

-- a request asks for nothing beside its answer but that nothing is violated: for no warnings, of a replay for
-- no turns and no words, and of a run for no counts
abbrev pub IsQuiet : Request → Type 0
IsQuiet (Check request) = request.warn ≡ false
IsQuiet (Plan request) = request.warn ≡ false
IsQuiet (Replay request) = (request.turns ≡ Nothing) × (request.explain ≡ false)
IsQuiet (AsksRun request) = request.stats ≡ false
IsQuiet _ = Unit {0}

-- so do the words
abbrev pub AskForNoNotes : List (List ℕ) → Type 0
AskForNoNotes words = (request : Request) → IsAskedBy words request → IsQuiet request

-- the text of what the words ask for, where nothing is violated
pub record IsDone (gives : FileFacts) (words : List (List ℕ)) (text : List ℕ) : Type 0 where
  pub request : Request
  pub asked : IsAskedBy words request
  pub notes : List ℕ
  pub dump : Option (List ℕ)
  pub answer : IsAnswer gives request text notes false dump
