-- The line that reports a refusal of a schedule.
use Rattle.std.specs.Prelude.{ℕ, List, ◌++◌, codes, decimal}
use Rattle.lusdist_shell.specs.declared.schedule.ScheduleError.{ScheduleError}
use Rattle.lusdist_shell.specs.declared.schedule.ScheduleError.TheVariants.{BadSchedule, LongSchedule}
use Rattle.lusdist_shell.specs.declared.schedule.ScheduleError.TheVariants.{OutOfMemory}

-- the line, with no line feed
abbrev pub line_of : ScheduleError → List ℕ
line_of (BadSchedule byte) = codes "S01 BadSchedule at " ++ decimal byte
line_of LongSchedule = codes "S02 LongSchedule"
line_of OutOfMemory = codes "R2 OutOfMemory"
