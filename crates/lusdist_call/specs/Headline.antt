-- The main theorem: what a replay and a run print, in the words of the source program alone.
use Rattle.std.specs.Prelude.{◌≡◌, ◌<◌, ℕ, List, Some, All}
use Rattle.lutree.specs.Tree.{ProgramTree}
use Rattle.luflow.specs.declared.form.FaultKind.{FaultKind}
use Rattle.luflow.specs.Program.{FlatView, InputsView}
use Rattle.luflow.specs.Tables.{OutputColumn}
use Rattle.luflow.specs.Variables.{inputs_of}
use Rattle.lustat_rules.specs.Accepted.{IsAccepted}
use Rattle.lusource.specs.Source.{SourceStreams, IsSourceSolution}
use Rattle.lusource.specs.Faults.{IsSourceFault}
use Rattle.lusource.specs.Agreement.{HasOneMeaning}
use Rattle.lucore_laws.specs.CausalityLaws.{HasCycle}
use Rattle.lucore.specs.Result.{IsFlatOf}
use Rattle.lusource.specs.RunReports.{RunReport, HasEndedSites, IsLinkTrue, IsLinkWhole, IsOutputTrue}
use Rattle.lusource.specs.RunReports.{IsOutputWhole}
use Rattle.lusyn.specs.Texts.{SpellsText}
use Rattle.lutab.specs.Table.{IsTextOf}
use Rattle.lutab.specs.Outputs.{output_text}
use Rattle.lusdist_shell.specs.Files.{FileFacts}
use Rattle.lusdist_shell.specs.Request.{IsAskedBy}
use Rattle.lusdist_shell.specs.declared.request.ReplayRequest.{ReplayRequest}
use Rattle.lusdist_shell.specs.declared.request.RunRequest.{RunRequest}
use Rattle.lusdist_shell.specs.declared.request.Request.TheVariants.{Replay, Run}
use Rattle.lusdist_call.specs.Answers.{IsDone}
use Rattle.lusdist_call.specs.Evaluated.{AreOutputsOf}
use Rattle.lusdist_call.specs.Exact.{HasOneText}
use Rattle.lusdist_call.specs.RunReportTexts.{run_report_text}

-- One text spells the program, which keeps all rules and has no cycle; the other says the inputs, at which
-- the program has exactly one solution.
pub record IsDesign (program table main : List ℕ) (tree : ProgramTree) (flat : FlatView)
    (inputs : InputsView) : Type 0 where
  pub spelled : SpellsText program tree
  pub accepted : IsAccepted tree main
  pub no_cycle : ¬ HasCycle tree main
  pub flat_is : IsFlatOf tree main flat
  pub says : IsTextOf flat.types (inputs_of flat.variables) inputs table
  pub one_solution : HasOneMeaning tree main inputs

-- at no instant of the table an operator is a fault
abbrev pub HasNoFaultIn : ProgramTree → List ℕ → InputsView → SourceStreams → Type 0
HasNoFaultIn tree main inputs σ = (name : List ℕ) (t : ℕ) (kind : FaultKind) → t < inputs.instants
    → ¬ IsSourceFault tree main inputs σ name t kind

-- In a solution: what was taken from a link is a prefix of its variable's present values, each once and in
-- order, the close last, and no more wait than the others of these; an output is a prefix of its variable's
-- statuses. Where all sites have ended, both are whole, and no operator is a fault.
pub record IsTrueAt (tree : ProgramTree) (main : List ℕ) (inputs : InputsView) (σ : SourceStreams)
    (report : RunReport) : Type 0 where
  pub links : All (IsLinkTrue inputs σ) report.links
  pub outputs : All (IsOutputTrue inputs σ) report.outputs
  pub links_whole : HasEndedSites report → All (IsLinkWhole inputs σ) report.links
  pub outputs_whole : HasEndedSites report → All (IsOutputWhole inputs σ) report.outputs
  pub no_fault : HasEndedSites report → HasNoFaultIn tree main inputs σ

-- What a replay printed is the text of a report that is true in each solution.
pub record IsTrueReplay (program table main text : List ℕ) : Type 0 where
  pub tree : ProgramTree
  pub flat : FlatView
  pub inputs : InputsView
  pub design : IsDesign program table main tree flat inputs
  pub report : RunReport
  pub text_is : text ≡ run_report_text report
  pub is_true : (σ : SourceStreams) → IsSourceSolution tree main inputs σ → IsTrueAt tree main inputs σ report

-- What a run printed is the table of the outputs of each solution, in none of which an operator is a fault.
pub record IsTrueRun (program table main text : List ℕ) : Type 0 where
  pub tree : ProgramTree
  pub flat : FlatView
  pub inputs : InputsView
  pub design : IsDesign program table main tree flat inputs
  pub outputs : List OutputColumn
  pub text_is : text ≡ output_text flat outputs
  pub are_outputs : AreOutputsOf tree main flat inputs outputs

-- Where each file has one text: of words that ask for a replay or for a run, of the texts that the files of
-- program and table gave, and of the text that the call printed when it was done.
pub record Headline (gives : FileFacts) : Type 0 where
  pub replay : HasOneText gives → (words : List (List ℕ)) (request : ReplayRequest)
      (program table text : List ℕ) → IsAskedBy words (Replay request) → IsDone gives words text
      → gives request.program.now (Some program) → gives request.table.now (Some table)
      → IsTrueReplay program table request.main.now text
  pub run : HasOneText gives → (words : List (List ℕ)) (request : RunRequest)
      (program table text : List ℕ) → IsAskedBy words (Run request) → IsDone gives words text
      → gives request.program.now (Some program) → gives request.table.now (Some table)
      → IsTrueRun program table request.main.now text
