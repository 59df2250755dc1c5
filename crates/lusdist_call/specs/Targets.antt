-- Where the dump of a call goes: over none of the call's own files, and to a place that can be written.
use Rattle.std.specs.Prelude.{◌≡◌, ◌≢◌, ℕ, List, Option, Some, None}
use Rattle.lusdist_shell.specs.Dumps.{DumpFacts}
use Rattle.lusdist_shell.specs.declared.request.Request.{Request}
use Rattle.lusdist_shell.specs.declared.request.Request.TheVariants.{Check, Eval, New, Plan, Replay, Run}
use Rattle.lusdist_shell.specs.Request.{IsAskedBy, schedule_file}
use Rattle.lusdist_call.specs.declared.role.Role.{Role}
use Rattle.lusdist_call.specs.declared.role.Role.TheVariants.{Program, Place, Table, Schedule}
use Rattle.lusdist_call.specs.declared.mistake.Mistake.TheVariants.{Overwritten}
use Rattle.lusdist_call.specs.declared.call_error.CallError.{CallError}
use Rattle.lusdist_call.specs.declared.call_error.CallError.TheVariants.{CannotWrite, OutOfMemory, Mistaken}
use Rattle.lusdist_call.specs.Files.{dump_path}

-- the path of the file that is this to a request, where there is one
abbrev pub file_of : Request → Role → Option (List ℕ)
file_of (Check request) Program = Some request.program.now
file_of (Eval request) Program = Some request.program.now
file_of (Eval request) Table = Some request.table.now
file_of (New request) Program = Some request.program.now
file_of (Plan request) Program = Some request.program.now
file_of (Plan request) Place = Some request.place.now
file_of (Replay request) Program = Some request.program.now
file_of (Replay request) Place = Some request.place.now
file_of (Replay request) Table = Some request.table.now
file_of (Replay request) Schedule = schedule_file request.source
file_of (Run request) Program = Some request.program.now
file_of (Run request) Place = Some request.place.now
file_of (Run request) Table = Some request.table.now
file_of request role = None

-- the file that is this to a request, where there is one, isn't spelled as this path
abbrev pub IsApart : Request → List ℕ → Role → Type 0
IsApart request path role = file_of request role ≢ Some path

-- nor is any file before it, in the order of the words
abbrev pub AreApartBefore : Request → List ℕ → Role → Type 0
AreApartBefore request path Program = Unit {0}
AreApartBefore request path Place = IsApart request path Program
AreApartBefore request path Table = IsApart request path Program × IsApart request path Place
AreApartBefore request path Schedule =
    IsApart request path Program × IsApart request path Place × IsApart request path Table

-- no file of a request is spelled as the path of its dump
abbrev pub KeepsFiles : Request → Type 0
KeepsFiles request = (path : List ℕ) → dump_path request ≡ Some path
    → (role : Role) → IsApart request path role

-- the file that is this to a request may be the one at this path
pub record IsSameFile (dumps : DumpFacts) (request : Request) (path : List ℕ) (role : Role) : Type 0 where
  pub file : List ℕ
  pub read : file_of request role ≡ Some file
  pub same : dumps.same path file

-- The dump of a request would take the place of the file that is this to the request; no file before it is
-- spelled as the path of the dump.
pub record IsOver (dumps : DumpFacts) (request : Request) (path : List ℕ) (role : Role) : Type 0 where
  pub dumped : dump_path request ≡ Some path
  pub one : IsSameFile dumps request path role
  pub first : AreApartBefore request path role

-- The dump of a request can't be written, and would take the place of none of its files.
pub record IsShut (dumps : DumpFacts) (request : Request) (path : List ℕ) : Type 0 where
  pub dumped : dump_path request ≡ Some path
  pub kept : KeepsFiles request
  pub shut : dumps.shut path

-- why a request is refused for its dump, before a file is read; or memory ran out
abbrev pub IsDumpRefused : DumpFacts → Request → CallError → Type 0
IsDumpRefused dumps request (Mistaken (Overwritten path role)) = IsOver dumps request path role
IsDumpRefused dumps request (CannotWrite path) = IsShut dumps request path
IsDumpRefused dumps request OutOfMemory = Unit {0}
IsDumpRefused dumps request _ = ⊥

-- the words ask for a dump that would take the place of a file of the call
pub record AskOver (dumps : DumpFacts) (words : List (List ℕ)) : Type 0 where
  pub request : Request
  pub asked : IsAskedBy words request
  pub path : List ℕ
  pub role : Role
  pub over : IsOver dumps request path role
