-- What a run of a job gives, in the words of the program that was asked for.
use Rattle.std.proofs.Common.{◌≡◌, ℕ, ◌<◌, List, length, false, Some, Result, Ok, Err, IfOk, IfErr, ◌⊎◌, MatchResult, refl, sym, ap, ◌∙◌, subst, inl, inr, None}
use Rattle.std.specs.Prelude.{IsUtf8, option_map, string_bytes}
use Rattle.luflow.specs.Tables.{FitsProgram}
use Rattle.luflow.specs.Variables.{inputs_of}
use Rattle.luflow.specs.Sound.{IsFit}
use Rattle.luworld.specs.Needs.{PlanView}
use Rattle.luworld.specs.Jobs.{IsJobView}
use Rattle.lutab.specs.Table.{IsTextOf, is_too_long}
use Rattle.lusdist_call.specs.Asked.{IsPlanFor}
use Rattle.lusdist_answers.proofs.AskedFor.{job_is}
use Rattle.luflow.specs.declared.form.FaultKind.{FaultKind}
use Rattle.luflow.specs.Flats.{IsFlat}
use Rattle.luflow.specs.Streams.{Broken, is_broken}
use Rattle.luflow.specs.Solution.{solution}
use Rattle.luflow.specs.Tables.{OutputColumn}
use Rattle.luflow.proofs.Solutions.{IsSolution-solution}
use Rattle.luworld.specs.Jobs.{JobView, NoFault, streams_of}
use Rattle.lueval.specs.Whole.{HasNoFault}
use Rattle.lueval_lines.proofs.Faults.{fault_broken, fault_same}
use Rattle.std.proofs.lemmas.Option.{slice_get_within}
use Rattle.lusource.specs.Faults.{IsSourceFault}
use Rattle.lusite.specs.declared.next.Fault.{Fault as SiteFault}
use Rattle.lusite.specs.Machine.{IsFaultAt}
use Rattle.lurun.specs.Reports.{AreOutputsOf as AreRunOutputs}
use Rattle.lusdist_shell.specs.declared.request.RunRequest.{RunRequest}
use Rattle.lusdist_call.specs.declared.call_error.CallError.{CallError}
use Rattle.lusdist_call.specs.declared.call_error.CallError.TheVariants.{CannotRead, CannotWrite, NotAscii, Syntax, Rules, Flat, Place, Table, Schedule, Fault, LinkLost, NoThread, OutOfMemory, Mistaken}
use Rattle.lutree.specs.Tree.{ProgramTree}
use Rattle.lusource.specs.Source.{SourceStreams, IsSourceSolution}
use Rattle.lucore.specs.Result.{IsFlatOf}
use Rattle.lusdist_call.specs.Headline.{HasNoFaultIn}
use Rattle.lusdist_shell.specs.declared.request.Request.TheVariants.{Run as AsksRun}
use Rattle.lusdist_call.specs.declared.reply.Reply.{Reply}
use Rattle.lusdist_call.specs.Answers.{IsRan, IsReplyTo}
use Rattle.lusdist_call.specs.Violations.{output_flows, unobserved, violations}
use Rattle.clap.specs.Walk.{texts}
use Rattle.lusdist_call.specs.Asked.{IsJobFor}
use Rattle.lusdist_call.specs.Evaluated.{AreOutputsOf}
use Rattle.lusdist_call.specs.Ran.{IsStopOfRun, IsRunReply}
use Rattle.lusdist_call.specs.Mistakes.{run_mistake}
use Rattle.lusdist_call.specs.Stopped.{IsRunFault, IsRunStopped}
use Rattle.lusdist_call.specs.Stopped.IsRunStopped.{run_fault, run_lost, run_thread, run_memory}
use Rattle.lusdist_answers.proofs.TrueReports.{owner_of}
use Rattle.lusdist_shell.specs.Files.{FileFacts}

-- the job of a plan and a table that the files give
pub job_found : (gives : FileFacts) (path place_path table_path main : List ℕ) (plan : PlanView) (table : List ℕ) → IsPlanFor gives path place_path main plan → gives table_path (Some table) → (result : Result JobView CallError)
    → IfOk result (λ job. job.plan ≡ plan) → IfOk result (λ job. IsTextOf plan.flat.types (inputs_of plan.flat.variables) job.inputs table) → IfOk result (λ _. is_too_long table ≡ false) → IfOk result (λ _. IsUtf8 table) → IfOk result (λ job. FitsProgram plan.flat job.inputs) → IfOk result IsJobView
    → IfOk result (IsJobFor gives path place_path table_path main)
job_found gives path place_path table_path main plan table found given (Ok job) same text short utf8 fits run =
    record {
      program = found.program;
      place = found.place;
      table = table;
      program_given = found.program_given;
      place_given = found.place_given;
      table_given = given;
      job_is = job_is found.program found.place table main plan job found.flat found.plan_of same text short utf8 fits run;
    }
job_found gives path place_path table_path main plan table found given (Err e) same text short utf8 fits run = tt

-- the variable of a fault at which a site stopped is one of the program's
pub owner_inside : (job : JobView) (site variable instant : ℕ) (kind : FaultKind) → IsFlat job.plan.flat → IsFaultAt job site (record { variable = variable; instant = instant; kind = kind }) → variable < length job.plan.flat.variables
owner_inside job site variable instant kind is at =
    let owner = owner_of job site (record { variable = variable; instant = instant; kind = kind }) is at in
    subst (λ v. v < length job.plan.flat.variables) owner.is owner.inside

-- where no flow breaks, no operator is a fault
pub no_fault_of : (job : JobView) → IsFlat job.plan.flat → IsFit job.plan.flat job.inputs → NoFault job → HasNoFault job.plan.flat job.inputs
no_fault_of job is fit none σ solves i t kind early fault =
    let own = IsSolution-solution job.plan.flat job.inputs is.ordered in
    let same = fault_same job.plan.flat job.inputs σ is fit solves (streams_of job) own i t kind fault in
    let broken = fault_broken job.plan.flat job.inputs (streams_of job) is fit own i t kind same in
    let whole = none i t (slice_get_within job.plan.flat.flows i fault.flow fault.there) early in
    let bad : is_broken Broken ≡ false = ap is_broken (sym broken) ∙ whole in
    absurd cc

-- nor one of the source
pub no_source_fault_of : (tree : ProgramTree) (main : List ℕ) (job : JobView) → IsFlatOf tree main job.plan.flat → HasNoFault job.plan.flat job.inputs → (σ : SourceStreams) → IsSourceSolution tree main job.inputs σ → HasNoFaultIn tree main job.inputs σ
no_source_fault_of tree main job source fine σ solves name t kind early fault =
    let own = IsSolution-solution job.plan.flat job.inputs source.is_flat.ordered in
    let found = source.all_faults job.inputs σ (solution job.plan.flat job.inputs) solves own name t kind fault in
    fine (solution job.plan.flat job.inputs) own found.0 t kind early found.1

module _ (gives : FileFacts) (request : RunRequest) (job : JobView) (asked : IsJobFor gives request.program.now request.place.now request.table.now request.main.now job) (observed : unobserved job.plan.flat.variables (texts request.always.now) ≡ None) where
  pub outputs_are : (outputs : List OutputColumn) → AreRunOutputs job outputs → AreOutputsOf asked.job_is.flat.tree request.main.now job.plan.flat job.inputs outputs
  outputs_are outputs are =
      let source = asked.job_is.flat.flat_is in
      let fine = no_fault_of job source.is_flat asked.job_is.is_run.fit are.no_fault in
      record {
        named = are.named;
        streams = λ σ solves. are.source σ (asked.job_is.is_meant σ solves);
        no_fault = fine;
        no_source_fault = no_source_fault_of asked.job_is.flat.tree request.main.now job source fine;
      }

  pub is_ran : run_mistake request ≡ None → (reply : Reply) → IsRunReply job request reply → IsReplyTo gives (AsksRun request) reply
  is_ran meant reply found =
      let ran : IsRan gives request (string_bytes reply.text) (string_bytes reply.notes) (option_map string_bytes reply.dump) = record {
        meant = meant;
        job = job;
        asked_for = asked;
        outputs = found.outputs;
        are_outputs = outputs_are found.outputs found.are_outputs;
        text_is = found.text_is;
        dump_is = found.dump_is;
        observed = observed;
        stats = found.stats;
        are_stats = found.are_stats;
        told = violations (texts request.always.now) (output_flows job.plan.flat found.outputs);
        told_is = refl;
        notes_are = found.notes_are;
      } in
      (ran, found.violated_is)

  fault_is : (name : List ℕ) (instant : ℕ) (kind : FaultKind) → IsStopOfRun job (Fault name instant kind) → IsRunFault gives request name instant kind
  fault_is name instant kind (variable, site, named, at) =
      let source = asked.job_is.flat.flat_is in
      let fault : SiteFault = record { variable = variable; instant = instant; kind = kind } in
      let owner = owner_of job site fault source.is_flat at in
      record {
        job = job;
        asked_for = asked;
        site = site;
        variable = variable;
        stopped = at;
        named = named;
        source = λ σ solves.
            subst (λ n. IsSourceFault asked.job_is.flat.tree request.main.now job.inputs σ n instant kind) (owner.named ∙ sym named)
            (source.faults job.inputs σ (streams_of job) solves (IsSolution-solution job.plan.flat job.inputs source.is_flat.ordered) at.place owner.number instant kind owner.variable at.is owner.owner owner.there);
        observed = observed;
      }

  pub run_stop : (stop : CallError) → IsStopOfRun job stop → IsRunStopped gives request stop
  run_stop (CannotRead path) h = absurd h
  run_stop (CannotWrite path) h = absurd h
  run_stop NotAscii h = absurd h
  run_stop (Syntax e) h = absurd h
  run_stop (Rules e) h = absurd h
  run_stop (Flat e) h = absurd h
  run_stop (Place e) h = absurd h
  run_stop (Table e) h = absurd h
  run_stop (Schedule e) h = absurd h
  run_stop (Fault name instant kind) h = run_fault name instant kind refl (fault_is name instant kind h)
  run_stop LinkLost h = run_lost job asked refl
  run_stop NoThread h = run_thread job asked refl
  run_stop (Mistaken mistake) h = absurd h
  run_stop OutOfMemory h = run_memory refl
