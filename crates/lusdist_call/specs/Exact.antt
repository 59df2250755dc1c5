-- That a call has one outcome, where each file is what it is.
use Rattle.std.specs.Prelude.{◌≡◌, ℕ, Bool, List, Option}
use Rattle.lusyn.specs.declared.error.SynError.TheVariants as syn
use Rattle.lustat_rules.specs.declared.error.StatError.TheVariants as rules
use Rattle.lucore.specs.declared.error.CoreError.TheVariants as core
use Rattle.luplace_file.specs.declared.error.PlaceError.TheVariants as place
use Rattle.lutab.specs.declared.error.TabError.TheVariants as tab
use Rattle.lusdist_shell.specs.declared.schedule.ScheduleError.TheVariants as schedule
use Rattle.lusdist_shell.specs.declared.request.Request.{Request}
use Rattle.lusdist_shell.specs.declared.request.Request.TheVariants.{Run as AsksRun}
use Rattle.lusdist_call.specs.declared.call_error.CallError.{CallError}
use Rattle.lusdist_call.specs.declared.call_error.CallError.TheVariants.{Syntax, Rules, Flat}
use Rattle.lusdist_call.specs.declared.call_error.CallError.TheVariants.{Place, Table, Schedule, Fault}
use Rattle.lusdist_call.specs.declared.call_error.CallError.TheVariants.{LinkLost, NoThread, OutOfMemory}
use Rattle.lusdist_call.specs.Answers.{IsAnswer}
use Rattle.lusdist_call.specs.Stopped.{IsRequestStopped}
use Rattle.lusdist_call.specs.Statuses.{status_of}
use Rattle.lusdist_shell.specs.Files.{FileFacts}

-- each file has one text, or none
abbrev pub HasOneText : FileFacts → Type 0
HasOneText gives = (path : List ℕ) (one other : Option (List ℕ)) → gives path one → gives path other
    → one ≡ other

-- a stop that says nothing of the files that are read: memory ran out, or a run was cut short, since a thread
-- was refused or a site was left
abbrev pub SaysNothing : CallError → Type 0
SaysNothing (Syntax syn.OutOfMemory) = Unit {0}
SaysNothing (Rules rules.OutOfMemory) = Unit {0}
SaysNothing (Flat core.OutOfMemory) = Unit {0}
SaysNothing (Place place.OutOfMemory) = Unit {0}
SaysNothing (Table tab.OutOfMemory) = Unit {0}
SaysNothing (Schedule schedule.OutOfMemory) = Unit {0}
SaysNothing LinkLost = Unit {0}
SaysNothing NoThread = Unit {0}
SaysNothing OutOfMemory = Unit {0}
SaysNothing _ = ⊥

-- Where each file has one text or none, what has an answer isn't refused, unless by a stop that says nothing
-- of them; and what is refused has no answer.
abbrev pub HasOneOutcome : FileFacts → Type 0
HasOneOutcome gives =
    HasOneText gives → (request : Request) (text notes : List ℕ) (violated : Bool) (dump : Option (List ℕ))
    (stop : CallError)
    → IsAnswer gives request text notes violated dump → IsRequestStopped gives request stop
    → SaysNothing stop

-- Two refusals of one request have one status, where each file has one text or none and neither says nothing
-- of them.
abbrev pub HasOneStatus : FileFacts → Type 0
HasOneStatus gives =
    HasOneText gives → (request : Request) (one other : CallError)
    → IsRequestStopped gives request one → IsRequestStopped gives request other
    → (¬ SaysNothing one) → (¬ SaysNothing other) → status_of one ≡ status_of other

-- a fault that a run on threads reports, which is one at which a site stopped
abbrev pub IsFaultOfRun : Request → CallError → Type 0
IsFaultOfRun (AsksRun request) (Fault name instant kind) = Unit {0}
IsFaultOfRun request stop = ⊥

-- Two refusals of one request are the same, where each file has one text or none, neither says nothing of
-- them, and they are no faults of a run on threads.
abbrev pub HasOneRefusal : FileFacts → Type 0
HasOneRefusal gives =
    HasOneText gives → (request : Request) (one other : CallError)
    → IsRequestStopped gives request one → IsRequestStopped gives request other
    → (¬ SaysNothing one) → (¬ SaysNothing other) → (¬ IsFaultOfRun request one) → one ≡ other
