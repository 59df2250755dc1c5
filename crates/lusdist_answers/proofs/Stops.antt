-- Stops at a file that is read.
use Rattle.std.proofs.Common.{◌≡◌, ℕ, List}
use Rattle.std.specs.Prelude.{Some, Result, Ok, Err, IfOk, IsUtf8, false}
use Rattle.luflow.specs.Program.{FlatView, InputsView as Inputs}
use Rattle.luflow.specs.Tables.{FitsProgram}
use Rattle.luflow.specs.Variables.{inputs_of}
use Rattle.lutab.specs.Table.{IsTextOf, is_too_long}
use Rattle.lusdist_shell.specs.declared.request.EvalRequest.{EvalRequest}
use Rattle.lusdist_shell.specs.Files.{FileFacts}
use Rattle.lusdist_call.specs.declared.call_error.CallError.{CallError}
use Rattle.lusdist_call.specs.Asked.{IsFlatAt, IsTableAt}
use Rattle.lusdist_call.specs.Evaluated.{IsNoFault}
use Rattle.lusdist_call.specs.Stopped.{HasNoFlat, IsEvalStopped, StopsAtProgram, StopsAtTable}
use Rattle.lusdist_call.specs.Stopped.HasNoFlat.{unspelled, unruled}
use Rattle.lusdist_call.specs.Stopped.StopsAtProgram.{program_unread, program_refused}
use Rattle.lusdist_call.specs.Stopped.StopsAtTable.{no_table, bad_table}
use Rattle.lusdist_call.specs.Stopped.IsEvalStopped.{eval_unread, eval_table}
use Rattle.lusdist_answers.proofs.Outcomes.{unread_none, program_none, table_none, reported_none}

flat_none : (bytes main : List ℕ) (stop : CallError) → HasNoFlat bytes main stop → IsNoFault stop
flat_none bytes main stop (unspelled refused) = program_none bytes stop refused
flat_none bytes main stop (unruled tree places spelled are reported) = reported_none tree places main stop reported

pub at_program_none : (gives : FileFacts) (path main : List ℕ) (stop : CallError) → StopsAtProgram gives path main stop → IsNoFault stop
at_program_none gives path main stop (program_unread unread) = unread_none gives path stop unread
at_program_none gives path main stop (program_refused program given none) = flat_none program main stop none

pub at_table_none : (gives : FileFacts) (path : List ℕ) (flat : FlatView) (stop : CallError) → StopsAtTable gives path flat stop → IsNoFault stop
at_table_none gives path flat stop (no_table unread) = unread_none gives path stop unread
at_table_none gives path flat stop (bad_table table given refused) = table_none flat.types (inputs_of flat.variables) table stop refused

-- an evaluation that stops at its table
pub stops_at_table : (gives : FileFacts) (request : EvalRequest) (flat : FlatView) (stop : CallError) → IsFlatAt gives request.program.now request.main.now flat → StopsAtTable gives request.table.now flat stop → IsEvalStopped gives request stop
stops_at_table gives request flat stop at (no_table unread) = eval_unread at.program flat at.given at.flat_is unread
stops_at_table gives request flat stop at (bad_table table given refused) = eval_table at.program table flat at.given given at.flat_is refused

-- the table that a file's bytes are
pub table_found : {E : Type 0} (gives : FileFacts) (path : List ℕ) (flat : FlatView) (table : List ℕ) → gives path (Some table) → (r : Result Inputs E)
    → IfOk r (λ inputs. IsTextOf flat.types (inputs_of flat.variables) inputs table) → IfOk r (λ _. is_too_long table ≡ false) → IfOk r (λ _. IsUtf8 table) → IfOk r (λ inputs. FitsProgram flat inputs)
    → IfOk r (IsTableAt gives path flat)
table_found gives path flat table given (Ok inputs) text short utf8 fits = record {
  table = table;
  given = given;
  text = text;
  short = short;
  utf8 = utf8;
  fits = fits;
}
table_found gives path flat table given (Err e) text short utf8 fits = tt
