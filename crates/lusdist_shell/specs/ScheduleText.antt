-- What the text of a schedule says, and which refusal comes where it says nothing.
use Rattle.std.specs.Prelude.{ℕ, List, length, nat_lt, position, Option, Some, None, Result, Ok, Err}
use Rattle.std.specs.Prelude.{if◌then◌else◌}
use Rattle.std.specs.List.{filter_map}
use Rattle.lubase.specs.Limits.{longest_schedule}
use Rattle.lusdist_shell.specs.declared.schedule.ScheduleError.{ScheduleError}
use Rattle.lusdist_shell.specs.declared.schedule.ScheduleError.TheVariants.{BadSchedule, LongSchedule}
use Rattle.lusdist_shell.specs.Schedule.{turn_of, is_bad}

-- the turns of a text, where no byte is bad
abbrev pub turns_unless : Option ℕ → List ℕ → Result (List ℕ) ScheduleError
turns_unless None text = Ok (filter_map turn_of text)
turns_unless (Some byte) text = Err (BadSchedule byte)

-- the turns of a text of at most 67,108,864 bytes, or its first bad byte
abbrev pub schedule_of : List ℕ → Result (List ℕ) ScheduleError
schedule_of text = if nat_lt longest_schedule (length text) then Err LongSchedule
    else turns_unless (position is_bad text) text
