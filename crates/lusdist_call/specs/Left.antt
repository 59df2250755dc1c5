-- What a call leaves in its two streams and in files, and with which status it ends.
use Rattle.std.specs.Prelude.{◌≡◌, ◌⊎◌, ℕ, Bool, true, false, List, [], Option, codes}
use Rattle.std.specs.Io.KnownBytes.{Appends}
use Rattle.clap.specs.Words.{fault_of, IsAmong}
use Rattle.clap.specs.declared.error.kind.ErrorKind.{ErrorKind}
use Rattle.clap.specs.declared.error.kind.ErrorKind.TheVariants.{DisplayHelp, DisplayVersion}
use Rattle.lusdist_shell.specs.declared.request.Request.{Request}
use Rattle.lusdist_shell.specs.declared.sink.Sink.{Sink}
use Rattle.lusdist_shell.specs.Sinks.{HasPut, HasLine, HasBeginning}
use Rattle.lusdist_shell.specs.CommandLine.{lusdist}
use Rattle.lusdist_shell.specs.Request.{IsAskedBy}
use Rattle.lusdist_call.specs.declared.call_error.CallError.{CallError}
use Rattle.lusdist_call.specs.declared.call_error.CallError.TheVariants.{CannotWrite, Mistaken}
use Rattle.lusdist_call.specs.declared.mistake.Mistake.TheVariants.{Overwritten}
use Rattle.lusdist_call.specs.declared.role.Role.{Role}
use Rattle.lusdist_call.specs.Lines.{line_of}
use Rattle.lusdist_shell.specs.Dumps.{Written, DumpFacts}
use Rattle.lusdist_call.specs.Answers.{IsAnswer}
use Rattle.lusdist_call.specs.Files.{dump_path, writes_of, IsUnfiled}
use Rattle.lusdist_call.specs.Stopped.{IsRequestStopped, IsStopDump}
use Rattle.lusdist_call.specs.Targets.{KeepsFiles, IsOver, IsShut}
use Rattle.lusdist_call.specs.Statuses.{status_of, status_beside}
use Rattle.lusdist_call.specs.Reasons.{HasRefusal}
use Rattle.lusdist_shell.specs.Files.{FileFacts}

-- the two streams before and after a call, and what each of them holds, where that is known
pub record Streams (W V : Type 0) : Type 0 where
  pub out : Sink W
  pub out_after : Sink W
  pub err : Sink V
  pub err_after : Sink V
  pub held_out : W → Option (List ℕ)
  pub held_err : V → Option (List ℕ)

-- the output has these bytes more, and the error stream has these notes more, unless a write of them failed;
-- without notes it is as it was
pub record HasOutput {W V : Type 0} (streams : Streams W V) (bytes notes : List ℕ) : Type 0 where
  pub output : Appends (streams.held_out streams.out.writer) (streams.held_out streams.out_after.writer) bytes
  pub noted : HasPut streams.held_err streams.err streams.err_after notes
  pub silent : notes ≡ [] → streams.err_after ≡ streams.err

-- the error stream has the line of a stop more, with its reason behind it where that is asked for, and the
-- output is as it was
pub record HasStopped {W V : Type 0} (gives : FileFacts) (request : Request) (stop : CallError)
    (streams : Streams W V) : Type 0 where
  pub error : HasRefusal gives request stop streams.held_err streams.err streams.err_after
  pub kept : streams.out_after ≡ streams.out

-- the error stream has this line more, and the output is as it was
pub record HasError {W V : Type 0} (streams : Streams W V) (line : List ℕ) : Type 0 where
  pub error : HasLine streams.held_err streams.err streams.err_after line
  pub kept : streams.out_after ≡ streams.out

-- the output couldn't be written, which the error stream has as a line
pub record HasNoOutput {W V : Type 0} (streams : Streams W V) : Type 0 where
  pub failed : streams.out_after.failed ≡ true
  pub error : HasLine streams.held_err streams.err streams.err_after (codes "F02 CannotWrite")

-- The dump of what a request asks for: beside its answer, or that of a stop.
pub data IsDumpOf (gives : FileFacts) (request : Request) (dump : Option (List ℕ)) : Type 0 where
  beside : (text notes : List ℕ) (violated : Bool) → IsAnswer gives request text notes violated dump
      → IsDumpOf gives request dump
  before : (stop : CallError) → IsRequestStopped gives request stop → IsStopDump gives request stop dump
      → IsDumpOf gives request dump

-- What is asked for ends with this status, and these writes: where the answer is printed, with its notes on
-- the error stream, with 3 where an output that is observed is violated, and else with 0; with that of a
-- refusal, whose line is reported, and its reason where that is asked for; with 3 where the dump couldn't be
-- written, which is reported in place of the rest; or with 3 where the answer couldn't be written, of which
-- the output has a prefix. Where there is a dump, all of it was written first.
pub data IsEnded {W V : Type 0} (gives : FileFacts) (request : Request) (status : ℕ) (wrote : List Written)
    (streams : Streams W V) : Type 0 where
  answered : (text notes : List ℕ) (violated : Bool) (dump : Option (List ℕ))
      → status ≡ status_beside violated
      → IsAnswer gives request text notes violated dump → wrote ≡ writes_of (dump_path request) dump true
      → HasOutput streams text notes → IsEnded gives request status wrote streams
  refused : (stop : CallError) (dump : Option (List ℕ)) → status ≡ status_of stop
      → IsRequestStopped gives request stop → IsStopDump gives request stop dump
      → wrote ≡ writes_of (dump_path request) dump true → HasStopped gives request stop streams
      → IsEnded gives request status wrote streams
  undumped : (stop : CallError) (dump : Option (List ℕ)) → status ≡ 3 → IsDumpOf gives request dump
      → IsUnfiled (dump_path request) dump stop wrote → HasStopped gives request stop streams
      → IsEnded gives request status wrote streams
  unwritten : (text notes : List ℕ) (violated : Bool) (dump : Option (List ℕ)) → status ≡ 3
      → IsAnswer gives request text notes violated dump → wrote ≡ writes_of (dump_path request) dump true
      → HasNoOutput streams → HasBeginning streams.held_out streams.out streams.out_after text
      → IsEnded gives request status wrote streams

-- help, or the version
abbrev pub IsHelp : ErrorKind → Type 0
IsHelp kind = (kind ≡ DisplayHelp) ⊎ (kind ≡ DisplayVersion)

-- A call with these words ends with this status, and these writes. Words in which nothing is wrong end as
-- what they ask for does, where their dump is spelled as none of their files; with 2 where it would take
-- the place of one of them; with 3 where it can't be written. Where help is asked for, it goes to the
-- output, with 0; other words end with 2, with nothing on the output. With 3 where memory ran out before
-- anything was read, or help couldn't be written. But for what is asked for nothing is written.
pub data IsCallEnded {W V : Type 0} (gives : FileFacts) (dumps : DumpFacts) (words : List (List ℕ))
    (status : ℕ) (wrote : List Written) (streams : Streams W V) : Type 0 where
  asked : (request : Request) → fault_of lusdist words ≡ [] → IsAskedBy words request → KeepsFiles request
      → IsEnded gives request status wrote streams → IsCallEnded gives dumps words status wrote streams
  overwriting : (request : Request) (path : List ℕ) (role : Role) → fault_of lusdist words ≡ []
      → IsAskedBy words request → IsOver dumps request path role → status ≡ 2 → wrote ≡ []
      → HasError streams (line_of (Mistaken (Overwritten path role)))
      → IsCallEnded gives dumps words status wrote streams
  shut : (request : Request) (path : List ℕ) → fault_of lusdist words ≡ [] → IsAskedBy words request
      → IsShut dumps request path → status ≡ 3 → wrote ≡ [] → HasError streams (line_of (CannotWrite path))
      → IsCallEnded gives dumps words status wrote streams
  helped : (kind : ErrorKind) → IsAmong kind (fault_of lusdist words) → IsHelp kind → status ≡ 0 → wrote ≡ []
      → streams.out_after.failed ≡ false → streams.err_after ≡ streams.err
      → IsCallEnded gives dumps words status wrote streams
  mistaken : (kind : ErrorKind) → IsAmong kind (fault_of lusdist words) → ¬ IsHelp kind → status ≡ 2
      → wrote ≡ [] → streams.out_after ≡ streams.out → IsCallEnded gives dumps words status wrote streams
  no_memory : status ≡ 3 → wrote ≡ [] → HasError streams (codes "R2 OutOfMemory")
      → IsCallEnded gives dumps words status wrote streams
  no_help : (kind : ErrorKind) → IsAmong kind (fault_of lusdist words) → IsHelp kind → status ≡ 3 → wrote ≡ []
      → HasNoOutput streams → IsCallEnded gives dumps words status wrote streams
