-- What a run of a job on threads gives.
use Rattle.std.specs.Prelude.{◌≡◌, ℕ, List, ◌++◌, option_map, string_bytes}
use Rattle.luflow.specs.Tables.{OutputColumn}
use Rattle.luflow.specs.Variables.{variable_name}
use Rattle.luworld.specs.Jobs.{JobView}
use Rattle.lusite.specs.Machine.{IsFaultAt}
use Rattle.lurun.specs.Reports.{AreOutputsOf}
use Rattle.lutab.specs.Outputs.{output_text}
use Rattle.lusdist_shell.specs.declared.request.RunRequest.{RunRequest}
use Rattle.lusdist_call.specs.declared.reply.Reply.{Reply}
use Rattle.lusdist_call.specs.Files.{dump_for, run_path}
use Rattle.clap.specs.Walk.{texts}
use Rattle.lusdist_call.specs.Violations.{has_lines, output_flows, violations}
use Rattle.lusdist_call.specs.Counted.{AreStats}
use Rattle.lusdist_call.specs.Waved.{run_dump}
use Rattle.lusdist_call.specs.declared.call_error.CallError.{CallError}
use Rattle.lusdist_call.specs.declared.call_error.CallError.TheVariants.{Fault, LinkLost, NoThread}
use Rattle.lusdist_call.specs.declared.call_error.CallError.TheVariants.{OutOfMemory}

-- why a run of a job with an output stops: a fault at which one of its sites stopped, with the name of its main
-- variable, or something that says nothing of the job
abbrev pub IsStopOfRun : JobView → CallError → Type 0
IsStopOfRun job (Fault name instant kind) = (variable : ℕ) × (site : ℕ)
    × (name ≡ variable_name job.plan.flat variable) × IsFaultAt job site (record {
      variable = variable;
      instant = instant;
      kind = kind;
    })
IsStopOfRun job LinkLost = Unit {0}
IsStopOfRun job NoThread = Unit {0}
IsStopOfRun job OutOfMemory = Unit {0}
IsStopOfRun job _ = ⊥

-- what a run of a job gives: the table of its outputs, the dump of the same, where one is asked for, and what
-- is told of what it counted, where that is asked for, and of outputs that are observed
pub record IsRunReply (job : JobView) (request : RunRequest) (reply : Reply) : Type 0 where
  pub outputs : List OutputColumn
  pub are_outputs : AreOutputsOf job outputs
  pub text_is : string_bytes reply.text ≡ output_text job.plan.flat outputs
  pub dump_is : option_map string_bytes reply.dump ≡ dump_for (run_path request)
      (run_dump request.main.now job.plan outputs)
  pub stats : List ℕ
  pub are_stats : AreStats request.stats job stats
  pub notes_are : string_bytes reply.notes
      ≡ stats ++ violations (texts request.always.now) (output_flows job.plan.flat outputs)
  pub violated_is : reply.violated
      ≡ has_lines (violations (texts request.always.now) (output_flows job.plan.flat outputs))
