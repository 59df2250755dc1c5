-- What is wrong with words that the command line takes, and the line that reports it.
use Rattle.std.specs.Prelude.{ℕ, Bool, List, ◌++◌, codes, Option, Some, None, nat_lt}
use Rattle.std.specs.Prelude.{if◌then◌else◌, option_map}
use Rattle.std.specs.Fmt.{decimal}
use Rattle.lusdist_shell.specs.declared.request.EvalRequest.{EvalRequest}
use Rattle.lusdist_shell.specs.declared.request.ReplayRequest.{ReplayRequest}
use Rattle.lusdist_shell.specs.declared.request.RunRequest.{RunRequest}
use Rattle.lusdist_shell.specs.declared.request.TurnsForm.{TurnsForm}
use Rattle.lusdist_shell.specs.declared.request.TurnsForm.TheVariants.{Lines, Chart, Nothing}
use Rattle.lusdist_shell.specs.declared.request.TurnsSource.{TurnsSource}
use Rattle.lusdist_shell.specs.declared.request.TurnsSource.TheVariants.{Unclear}
use Rattle.lusdist_call.specs.declared.mistake.Mistake.{Mistake}
use Rattle.lusdist_call.specs.declared.mistake.Mistake.TheVariants.{UnknownCode, NoChart, Backwards}
use Rattle.lusdist_call.specs.declared.mistake.Mistake.TheVariants.{Overwritten, TwoForms, Unobserved}
use Rattle.lusdist_call.specs.declared.mistake.Mistake.TheVariants.{UnclearTurns, NoTurns, UnclearWorkers}
use Rattle.lurun.specs.declared.options.Workers.{Workers}
use Rattle.lusdist_call.specs.Workers.{workers_in}
use Rattle.lusdist_call.specs.declared.role.Role.{Role}
use Rattle.lusdist_call.specs.declared.role.Role.TheVariants.{Program, Place, Table, Schedule}

-- the name of a file of a call in the help of the commands
abbrev pub role_text : Role → List ℕ
role_text Program = codes "PROGRAM"
role_text Place = codes "PLACE"
role_text Table = codes "TABLE"
role_text Schedule = codes "SCHEDULE"

-- the line, without the line feed that ends it
abbrev pub line_of : Mistake → List ℕ
line_of (UnknownCode code) = codes "error: no page has the code " ++ code
line_of NoChart = codes "error: --from and --to need --chronogram"
line_of (Backwards from to) =
    codes "error: --from " ++ (decimal from ++ (codes " is after --to " ++ decimal to))
line_of (Overwritten path role) =
    codes "error: --vcd " ++ (path ++ (codes " is the " ++ (role_text role ++ codes " of this call")))
line_of TwoForms = codes "error: --text and --chronogram ask for two forms"
line_of (Unobserved name) =
    codes "error: --always " ++ (name ++ codes " is no bool output of the main node")
line_of UnclearWorkers = codes "error: --workers takes a number from 1 to 16, or auto"
line_of NoTurns = codes "error: --from and --to need --trace or --chart"
line_of UnclearTurns = codes "error: the turns are those of SCHEDULE, or random by --random and --turns"

-- instants are given for a chart alone
abbrev pub chartless : Option ℕ → Option ℕ → Option Mistake
chartless None None = None
chartless None (Some to) = Some NoChart
chartless (Some from) to = Some NoChart

-- and the first isn't after the last
abbrev pub unordered : ℕ → ℕ → Option Mistake
unordered from to = if nat_lt to from then Some (Backwards from to) else None

abbrev pub backwards : Option ℕ → Option ℕ → Option Mistake
backwards None to = None
backwards (Some from) None = None
backwards (Some from) (Some to) = unordered from to

-- a chart is no table with aligned columns
abbrev pub charted : Bool → Option ℕ → Option ℕ → Option Mistake
charted aligned from to = if aligned then Some TwoForms else backwards from to

-- what is wrong with what an evaluation is asked for
abbrev pub mistake_in : EvalRequest → Option Mistake
mistake_in request = if request.chronogram then charted request.aligned request.from request.to
    else chartless request.from request.to

-- what is wrong with where the turns of a replay are to come from
abbrev pub turns_mistake : TurnsSource → Option Mistake
turns_mistake Unclear = Some UnclearTurns
turns_mistake _ = None

-- instants are given for turns that are reported alone, and the first isn't after the last
abbrev pub turnless : Option ℕ → Option ℕ → Option Mistake
turnless None None = None
turnless None (Some to) = Some NoTurns
turnless (Some from) to = Some NoTurns

abbrev pub cut_mistake : TurnsForm → Option ℕ → Option ℕ → Option Mistake
cut_mistake Nothing from to = turnless from to
cut_mistake Lines from to = backwards from to
cut_mistake Chart from to = backwards from to

-- the first of two, where there is one
abbrev pub first_mistake : Option Mistake → Option Mistake → Option Mistake
first_mistake (Some mistake) other = Some mistake
first_mistake None other = other

-- what is wrong with what a replay is asked for
abbrev pub replay_mistake : ReplayRequest → Option Mistake
replay_mistake request =
    first_mistake (turns_mistake request.source) (cut_mistake request.turns request.from request.to)

-- the word for the workers of a run names some
abbrev pub unclear_workers : Option Workers → Option Mistake
unclear_workers None = Some UnclearWorkers
unclear_workers (Some workers) = None

-- the word for its workers, where there is one
abbrev pub workers_word : RunRequest → Option (List ℕ)
workers_word request = option_map (λ s. s.now) request.workers

-- what is wrong with what a run is asked for
abbrev pub run_mistake : RunRequest → Option Mistake
run_mistake request = unclear_workers (workers_in (workers_word request))
