-- Why a call stops before it prints anything.
use Rattle.std.specs.Prelude.{◌≡◌, ◌⊎◌, ℕ, List, Option, Some, None, Err, option_map, string_bytes}
use Rattle.lutree.specs.Places.{ProgramPlaces}
use Rattle.lutree.specs.Tree.{ProgramTree}
use Rattle.luflow.specs.Program.{FlatView, InputsView}
use Rattle.luflow.specs.Variables.{inputs_of}
use Rattle.luflow.specs.declared.form.FaultKind.{FaultKind}
use Rattle.luworld.specs.Needs.{PlanView}
use Rattle.luworld.specs.Jobs.{JobView}
use Rattle.lusyn.specs.Places.{ArePlacesOf}
use Rattle.lusyn.specs.Texts.{SpellsText}
use Rattle.lusdist_shell.specs.ScheduleText.{schedule_of}
use Rattle.lusdist_shell.specs.declared.schedule.ScheduleError.TheVariants as schedule
use Rattle.lusdist_shell.specs.declared.request.CheckRequest.{CheckRequest}
use Rattle.lusdist_shell.specs.declared.request.EvalRequest.{EvalRequest}
use Rattle.lusdist_shell.specs.declared.request.NewRequest.{NewRequest}
use Rattle.lusdist_shell.specs.declared.request.PlanRequest.{PlanRequest}
use Rattle.lusdist_shell.specs.declared.request.ReplayRequest.{ReplayRequest}
use Rattle.lusdist_shell.specs.declared.request.TurnsSource.{TurnsSource}
use Rattle.lusdist_shell.specs.declared.request.TurnsSource.TheVariants.{File}
use Rattle.lusdist_shell.specs.declared.request.RunRequest.{RunRequest}
use Rattle.lusdist_shell.specs.declared.request.Request.{Request}
use Rattle.lusdist_shell.specs.declared.request.Request.TheVariants.{Check, Eval, New, Plan, Replay}
use Rattle.lusdist_shell.specs.declared.request.Request.TheVariants.{Run as AsksRun, Explain}
use Rattle.lusdist_shell.specs.Request.{IsAskedBy}
use Rattle.lusdist_call.specs.declared.call_error.CallError.{CallError}
use Rattle.lusdist_call.specs.declared.call_error.CallError.TheVariants.{Schedule}
use Rattle.lusdist_call.specs.declared.call_error.CallError.TheVariants.{Fault, LinkLost, NoThread}
use Rattle.lusdist_call.specs.declared.call_error.CallError.TheVariants.{OutOfMemory, Mistaken}
use Rattle.lusdist_call.specs.declared.mistake.Mistake.{Mistake}
use Rattle.lusdist_call.specs.declared.refusal.Refusal.{Refusal}
use Rattle.lusdist_call.specs.Files.{IsUnread}
use Rattle.lusdist_call.specs.Mistakes.{mistake_in, replay_mistake, run_mistake}
use Rattle.lusdist_call.specs.Statuses.{status_of}
use Rattle.luflow.specs.Variables.{variable_name}
use Rattle.lusource.specs.Source.{SourceStreams, IsSourceSolution}
use Rattle.lusource.specs.Faults.{IsSourceFault}
use Rattle.lusite.specs.Machine.{IsFaultAt}
use Rattle.lusdist_call.specs.Asked.{HasFlat, IsPlanFor, IsJobFor, IsAskedFor}
use Rattle.lusdist_call.specs.Evaluated.{IsFaultOf, IsDumpedTo, IsPosedBy}
use Rattle.lusdist_call.specs.Violations.{unobserved}
use Rattle.clap.specs.Walk.{texts}
use Rattle.lusdist_call.specs.declared.mistake.Mistake.TheVariants.{Unobserved}
use Rattle.lusdist_call.specs.Explained.{code_in, IsExplainStopped}
use Rattle.lusdist_call.specs.Refused.{IsReportedOf, IsProgramRefused, IsPlaceRefused, IsTableRefused}
use Rattle.lusdist_shell.specs.Files.{FileFacts}

-- the bytes of a schedule's file are refused so
abbrev pub IsScheduleRefused : List ℕ → CallError → Type 0
IsScheduleRefused bytes (Schedule e) = (e ≡ schedule.OutOfMemory) ⊎ (schedule_of bytes ≡ Err e)
IsScheduleRefused bytes _ = ⊥

-- the bytes of a program's file spell no program, or one that has no flat program from this main node
pub data HasNoFlat (bytes main : List ℕ) (stop : CallError) : Type 0 where
  unspelled : IsProgramRefused bytes stop → HasNoFlat bytes main stop
  unruled : (tree : ProgramTree) (places : ProgramPlaces) → SpellsText bytes tree → ArePlacesOf bytes places
      → IsReportedOf tree places main stop → HasNoFlat bytes main stop

-- It stops at the table of this path: it can't be read, or is none of the program's.
pub data StopsAtTable (gives : FileFacts) (path : List ℕ) (flat : FlatView) (stop : CallError) : Type 0 where
  no_table : IsUnread gives path stop → StopsAtTable gives path flat stop
  bad_table : (table : List ℕ) → gives path (Some table)
      → IsTableRefused flat.types (inputs_of flat.variables) table stop → StopsAtTable gives path flat stop

-- It stops at the schedule of this path: it can't be read, or is none.
pub data StopsAtSchedule (gives : FileFacts) (path : List ℕ) (stop : CallError) : Type 0 where
  no_schedule : IsUnread gives path stop → StopsAtSchedule gives path stop
  bad_schedule : (schedule : List ℕ) → gives path (Some schedule) → IsScheduleRefused schedule stop
      → StopsAtSchedule gives path stop

-- it stops at the turns from this source: at their schedule
abbrev pub StopsAtTurns : FileFacts → TurnsSource → CallError → Type 0
StopsAtTurns gives (File path) stop = StopsAtSchedule gives path.now stop
StopsAtTurns gives _ stop = ⊥

-- A call stops at the program of this path: it can't be read, or has no flat program from this main node.
pub data StopsAtProgram (gives : FileFacts) (path main : List ℕ) (stop : CallError) : Type 0 where
  program_unread : IsUnread gives path stop → StopsAtProgram gives path main stop
  program_refused : (program : List ℕ) → gives path (Some program) → HasNoFlat program main stop
      → StopsAtProgram gives path main stop

-- It stops there, or, where the program has a flat program, at the placement of the other path.
pub data StopsAtPlan (gives : FileFacts) (path place_path main : List ℕ) (stop : CallError) : Type 0 where
  no_program : StopsAtProgram gives path main stop → StopsAtPlan gives path place_path main stop
  place_unread : (program : List ℕ) (flat : FlatView) → gives path (Some program) → HasFlat program main flat
      → IsUnread gives place_path stop → StopsAtPlan gives path place_path main stop
  place_refused : (program place : List ℕ) (flat : FlatView) → gives path (Some program)
      → HasFlat program main flat → gives place_path (Some place) → IsPlaceRefused flat place stop
      → StopsAtPlan gives path place_path main stop

-- A name that is observed is no bool output of the main node: the first such.
pub record IsUnobserved (flat : FlatView) (names : List (List ℕ)) (stop : CallError) : Type 0 where
  pub name : List ℕ
  pub first : unobserved flat.variables names ≡ Some name
  pub is : stop ≡ Mistaken (Unobserved name)

-- a check of what a request asks for stops so
pub data IsCheckStopped (gives : FileFacts) (request : CheckRequest) (stop : CallError) : Type 0 where
  check_program : StopsAtProgram gives request.program.now request.main.now stop
      → IsCheckStopped gives request stop
  check_memory : stop ≡ OutOfMemory → IsCheckStopped gives request stop

-- An evaluation of what a request asks for stops so: at its program; where that has a flat program, at its
-- table; where there is one, at a name that is observed; or at the first fault.
pub data IsEvalStopped (gives : FileFacts) (request : EvalRequest) (stop : CallError) : Type 0 where
  eval_program : StopsAtProgram gives request.program.now request.main.now stop
      → IsEvalStopped gives request stop
  eval_unread : (program : List ℕ) (flat : FlatView) → gives request.program.now (Some program)
      → HasFlat program request.main.now flat → IsUnread gives request.table.now stop
      → IsEvalStopped gives request stop
  eval_table : (program table : List ℕ) (flat : FlatView) → gives request.program.now (Some program)
      → gives request.table.now (Some table) → HasFlat program request.main.now flat
      → IsTableRefused flat.types (inputs_of flat.variables) table stop → IsEvalStopped gives request stop
  eval_fault : (name : List ℕ) (instant : ℕ) (kind : FaultKind) → stop ≡ Fault name instant kind
      → IsFaultOf gives request name instant kind → IsEvalStopped gives request stop
  eval_unobserved : (flat : FlatView) (inputs : InputsView) → IsPosedBy gives request flat inputs
      → IsUnobserved flat (texts request.always.now) stop → IsEvalStopped gives request stop
  eval_memory : stop ≡ OutOfMemory → IsEvalStopped gives request stop

-- What a request asks of an evaluation stops so: at what can't be meant; or, where it can be, at its files
-- and at a fault.
pub data IsEvalRefused (gives : FileFacts) (request : EvalRequest) (stop : CallError) : Type 0 where
  eval_mistaken : (mistake : Mistake) → mistake_in request ≡ Some mistake → stop ≡ Mistaken mistake
      → IsEvalRefused gives request stop
  eval_stopped : mistake_in request ≡ None → IsEvalStopped gives request stop
      → IsEvalRefused gives request stop

-- the beginning of a design that a request asks for stops so
pub data IsNewStopped (gives : FileFacts) (request : NewRequest) (stop : CallError) : Type 0 where
  new_program : StopsAtProgram gives request.program.now request.main.now stop
      → IsNewStopped gives request stop
  new_memory : stop ≡ OutOfMemory → IsNewStopped gives request stop

-- a plan of what a request asks for stops so
pub data IsPlanStopped (gives : FileFacts) (request : PlanRequest) (stop : CallError) : Type 0 where
  plan_files : StopsAtPlan gives request.program.now request.place.now request.main.now stop
      → IsPlanStopped gives request stop
  plan_memory : stop ≡ OutOfMemory → IsPlanStopped gives request stop

-- It stops as at a plan; or, where there is a plan, at the table of a third path.
pub data StopsAtJob (gives : FileFacts) (path place_path table_path main : List ℕ)
    (stop : CallError) : Type 0 where
  no_plan : StopsAtPlan gives path place_path main stop
      → StopsAtJob gives path place_path table_path main stop
  table_unread : (plan : PlanView) → IsPlanFor gives path place_path main plan
      → IsUnread gives table_path stop → StopsAtJob gives path place_path table_path main stop
  table_refused : (plan : PlanView) (table : List ℕ) → IsPlanFor gives path place_path main plan
      → gives table_path (Some table)
      → IsTableRefused plan.flat.types (inputs_of plan.flat.variables) table stop
      → StopsAtJob gives path place_path table_path main stop

-- A replay of what a request asks for stops so: at its job; where there is one, at its turns; or, where there
-- are such, at a name that is observed.
pub data IsReplayStopped (gives : FileFacts) (request : ReplayRequest) (stop : CallError) : Type 0 where
  replay_job : StopsAtJob gives request.program.now request.place.now request.table.now request.main.now stop
      → IsReplayStopped gives request stop
  replay_turns : (job : JobView)
      → IsJobFor gives request.program.now request.place.now request.table.now request.main.now job
      → StopsAtTurns gives request.source stop → IsReplayStopped gives request stop
  replay_unobserved : (job : JobView) (turns : List ℕ) → IsAskedFor gives request job turns
      → IsUnobserved job.plan.flat (texts request.always.now) stop → IsReplayStopped gives request stop
  replay_memory : stop ≡ OutOfMemory → IsReplayStopped gives request stop

-- What a request asks of a replay stops so: where something is wrong with the words, at that; else at its
-- files.
pub data IsReplayRefused (gives : FileFacts) (request : ReplayRequest) (stop : CallError) : Type 0 where
  replay_mistaken : (mistake : Mistake) → replay_mistake request ≡ Some mistake
      → stop ≡ Mistaken mistake → IsReplayRefused gives request stop
  replay_stopped : replay_mistake request ≡ None → IsReplayStopped gives request stop
      → IsReplayRefused gives request stop

-- A fault of the run that a request asks for, reported by the name of the main variable in whose equation it
-- stands: it is the one at which a site of the run stopped, and a fault of the source.
pub record IsRunFault (gives : FileFacts) (request : RunRequest) (name : List ℕ) (instant : ℕ)
    (kind : FaultKind) : Type 0 where
  pub job : JobView
  pub asked_for : IsJobFor gives request.program.now request.place.now request.table.now request.main.now job
  pub site : ℕ
  pub variable : ℕ
  pub stopped : IsFaultAt job site (record { variable = variable; instant = instant; kind = kind })
  pub named : name ≡ variable_name job.plan.flat variable
  pub source : (σ : SourceStreams) → IsSourceSolution asked_for.job_is.flat.tree request.main.now job.inputs σ
      → IsSourceFault asked_for.job_is.flat.tree request.main.now job.inputs σ name instant kind
  pub observed : unobserved job.plan.flat.variables (texts request.always.now) ≡ None

-- A run of what a request asks for stops so: at its job; or, where there is one, at a name that is observed,
-- at a fault, or because a site was left by another or a thread was refused.
pub data IsRunStopped (gives : FileFacts) (request : RunRequest) (stop : CallError) : Type 0 where
  run_job : StopsAtJob gives request.program.now request.place.now request.table.now request.main.now stop
      → IsRunStopped gives request stop
  run_fault : (name : List ℕ) (instant : ℕ) (kind : FaultKind) → stop ≡ Fault name instant kind
      → IsRunFault gives request name instant kind → IsRunStopped gives request stop
  run_lost : (job : JobView)
      → IsJobFor gives request.program.now request.place.now request.table.now request.main.now job
      → stop ≡ LinkLost → IsRunStopped gives request stop
  run_thread : (job : JobView)
      → IsJobFor gives request.program.now request.place.now request.table.now request.main.now job
      → stop ≡ NoThread → IsRunStopped gives request stop
  run_unobserved : (job : JobView)
      → IsJobFor gives request.program.now request.place.now request.table.now request.main.now job
      → IsUnobserved job.plan.flat (texts request.always.now) stop → IsRunStopped gives request stop
  run_memory : stop ≡ OutOfMemory → IsRunStopped gives request stop

pub data IsRunRefused (gives : FileFacts) (request : RunRequest) (stop : CallError) : Type 0 where
  run_mistaken : (mistake : Mistake) → run_mistake request ≡ Some mistake → stop ≡ Mistaken mistake
      → IsRunRefused gives request stop
  run_stopped : run_mistake request ≡ None → IsRunStopped gives request stop → IsRunRefused gives request stop

-- what a request asks for stops so
abbrev pub IsRequestStopped : FileFacts → Request → CallError → Type 0
IsRequestStopped gives (Check request) stop = IsCheckStopped gives request stop
IsRequestStopped gives (Eval request) stop = IsEvalRefused gives request stop
IsRequestStopped gives (New request) stop = IsNewStopped gives request stop
IsRequestStopped gives (Plan request) stop = IsPlanStopped gives request stop
IsRequestStopped gives (Replay request) stop = IsReplayRefused gives request stop
IsRequestStopped gives (AsksRun request) stop = IsRunRefused gives request stop
IsRequestStopped gives (Explain request) stop = IsExplainStopped (code_in request) stop

-- the dump of a call that stops: of an evaluation at a fault, that of the instants before it; else none
abbrev pub IsStopDump : FileFacts → Request → CallError → Option (List ℕ) → Type 0
IsStopDump gives (Eval request) stop dump = IsDumpedTo gives request stop dump
IsStopDump gives _ stop dump = dump ≡ None

-- a refusal of what a request asks for: why it stops, and the dump that it leaves
pub record IsRefusalOf (gives : FileFacts) (request : Request) (refusal : Refusal) : Type 0 where
  pub stops : IsRequestStopped gives request refusal.error
  pub leaves : IsStopDump gives request refusal.error (option_map string_bytes refusal.dump)

-- what the words ask for stops so, with this status
pub record IsRefusal (gives : FileFacts) (words : List (List ℕ)) (status : ℕ) : Type 0 where
  pub request : Request
  pub asked : IsAskedBy words request
  pub stop : CallError
  pub stops : IsRequestStopped gives request stop
  pub status_is : status ≡ status_of stop
