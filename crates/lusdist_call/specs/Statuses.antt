-- The exit statuses of a call that stops.
use Rattle.std.specs.Prelude.{ℕ, Bool, true, false}
use Rattle.lusyn.specs.declared.error.SynError.TheVariants as syn
use Rattle.lustat_rules.specs.declared.error.StatError.TheVariants as rules
use Rattle.lucore.specs.declared.error.CoreError.TheVariants as core
use Rattle.luplace_file.specs.declared.error.PlaceError.TheVariants as place
use Rattle.lutab.specs.declared.error.TabError.TheVariants as tab
use Rattle.lusdist_shell.specs.declared.schedule.ScheduleError.TheVariants as schedule
use Rattle.lusdist_call.specs.declared.call_error.CallError.{CallError}
use Rattle.lusdist_call.specs.declared.call_error.CallError.TheVariants.{CannotRead, CannotWrite, Syntax}
use Rattle.lusdist_call.specs.declared.call_error.CallError.TheVariants.{Rules, Flat, Place, Table, Schedule}
use Rattle.lusdist_call.specs.declared.call_error.CallError.TheVariants.{Fault, LinkLost, NoThread}
use Rattle.lusdist_call.specs.declared.call_error.CallError.TheVariants.{OutOfMemory, Mistaken}

-- 3 where an evaluation or a run is a fault, a dump can't be written, a run was cut short or memory ran out,
-- 2 where a file can't be read or the words are wrong, and 1 where a text is refused
abbrev pub status_of : CallError → ℕ
status_of (CannotRead path) = 2
status_of (Mistaken mistake) = 2
status_of (Syntax syn.OutOfMemory) = 3
status_of (Rules rules.OutOfMemory) = 3
status_of (Flat core.OutOfMemory) = 3
status_of (Place place.OutOfMemory) = 3
status_of (Table tab.OutOfMemory) = 3
status_of (Schedule schedule.OutOfMemory) = 3
status_of (Fault variable instant kind) = 3
status_of (CannotWrite path) = 3
status_of LinkLost = 3
status_of NoThread = 3
status_of OutOfMemory = 3
status_of _ = 1

-- that of a call that answers: 3 where an output that is observed is violated, else 0
abbrev pub status_beside : Bool → ℕ
status_beside true = 3
status_beside false = 0
