-- Where texts are refused.
use Rattle.std.specs.Prelude.{◌⊎◌, ℕ, List}
use Rattle.lusdist_shell.specs.declared.schedule.ScheduleError.{ScheduleError}
use Rattle.lusdist_shell.specs.declared.schedule.ScheduleError.TheVariants as schedules
use Rattle.luexplain.specs.declared.said.Explanation.{Explanation}
use Rattle.luexplain.specs.Place.{place}
use Rattle.luexplain.specs.Explanations.{IsExplanation, whole}

-- a schedule is reported at the byte that is no turn
abbrev pub place_of_schedule : List ℕ → List ℕ → ScheduleError → List ℕ
place_of_schedule path text (schedules.BadSchedule byte) = place path text byte
place_of_schedule path text schedules.LongSchedule = whole path
place_of_schedule path text schedules.OutOfMemory = whole path

-- what is reported stands at some byte of a text, or of the whole
abbrev pub IsExplainedSomewhere : List ℕ → List ℕ → Explanation → Type 0
IsExplainedSomewhere path text reported = ((byte : ℕ) × IsExplanation (place path text byte) reported)
    ⊎ IsExplanation (whole path) reported
