-- What a command line asks for.
use Rattle.std.specs.Prelude.{◌≡◌, ◌⊎◌, ◌≤◌, ℕ, Bool, IfSome, List, [], codes, unwrap_or, Option, Some, None}
use Rattle.std.specs.Prelude.{if◌then◌else◌, option_map}
use Rattle.clap.specs.Walk.{all_of, texts}
use Rattle.std.specs.Borrow.{Bor}
use Rattle.std.specs.Str.{bytes_eq}
use Rattle.std.specs.Str.Parse.{digits_value, without_leading_plus}
use Rattle.clap.specs.Values.{IsUnsignedIn}
use Rattle.clap.specs.Walk.{Row, Text, first_of}
use Rattle.clap.specs.Simple.{subcommand_of}
use Rattle.lusdist_shell.specs.declared.request.CheckRequest.{CheckRequest}
use Rattle.lusdist_shell.specs.declared.request.EvalRequest.{EvalRequest}
use Rattle.lusdist_shell.specs.declared.request.ExplainRequest.{ExplainRequest}
use Rattle.lusdist_shell.specs.declared.request.NewRequest.{NewRequest}
use Rattle.lusdist_shell.specs.declared.request.PlanForm.{PlanForm}
use Rattle.lusdist_shell.specs.declared.request.PlanForm.TheVariants.{Report, Table, Graph}
use Rattle.lusdist_shell.specs.declared.request.PlanRequest.{PlanRequest}
use Rattle.lusdist_shell.specs.declared.request.ReplayRequest.{ReplayRequest}
use Rattle.lusdist_shell.specs.declared.request.TurnsForm.{TurnsForm}
use Rattle.lusdist_shell.specs.declared.request.TurnsForm.TheVariants.{Nothing, Lines, Chart}
use Rattle.lusdist_shell.specs.declared.request.TurnsSource.{TurnsSource}
use Rattle.lusdist_shell.specs.declared.request.TurnsSource.TheVariants.{File, Random, Unclear}
use Rattle.lusdist_shell.specs.declared.request.RunRequest.{RunRequest}
use Rattle.lusdist_shell.specs.declared.request.Request.{Request}
use Rattle.lusdist_shell.specs.declared.request.Request.TheVariants.{Check, Eval, New, Plan, Replay, Run, Explain}
use Rattle.lubase.specs.Limits.{most_instants}
use Rattle.lusdist_shell.specs.CommandLine.{last_instant, greatest_seed, lusdist}

-- the text that the matches of a command hold for an argument
abbrev pub text_in : List Row → Text → Text
text_in matches argument = unwrap_or (first_of argument matches) []

-- whether the matches of a command hold a flag
abbrev pub is_given : List Row → Text → Bool
is_given matches flag = bytes_eq (text_in matches flag) (codes "true")

-- all texts that the matches of a command hold for an argument, in the order of the words
abbrev pub texts_in : List Row → Text → List Text
texts_in matches argument = unwrap_or (all_of argument matches) []

-- a graph where `--dot` is given, else a table where `--text` is, else the report
abbrev pub form_in : List Row → PlanForm
form_in matches = if is_given matches (codes "dot") then Graph else (if is_given matches (codes "text")
    then Table else Report)

-- a chart where `--chart` is given, else lines where `--trace` is, else nothing
abbrev pub turns_in : List Row → TurnsForm
turns_in matches = if is_given matches (codes "chart") then Chart else (if is_given matches (codes "trace")
    then Lines else Nothing)

-- The instant that the text for it spells, in decimal; there is none where there is no text. The command line
-- takes no other text than that of an instant that a table may have.
abbrev pub IsInstantIn : Option Text → Option ℕ → Type 0
IsInstantIn None instant = instant ≡ None
IsInstantIn (Some text) instant = IsUnsignedIn 0 last_instant text
    → instant ≡ Some (digits_value 10 (without_leading_plus text))

-- The number that the text for it spells, in decimal; there is none where there is no text. The command line
-- takes no greater one than 4294967295.
abbrev pub IsNumberIn : Option Text → Option ℕ → Type 0
IsNumberIn None number = number ≡ None
IsNumberIn (Some text) number = IsUnsignedIn 0 greatest_seed text
    → number ≡ Some (digits_value 10 (without_leading_plus text))

-- Where turns come from, by the path of a schedule, a seed and a number of turns: from the file of the
-- schedule, where that alone is given; at random, where the other two are; else it is unclear.
abbrev pub source_of : Option (Bor Text) → Option ℕ → Option ℕ → TurnsSource
source_of (Some path) None None = File path
source_of None (Some seed) (Some count) = Random seed count
source_of _ _ _ = Unclear

-- the path of the schedule from which turns come, where they come from one
abbrev pub schedule_file : TurnsSource → Option Text
schedule_file (File path) = Some path.now
schedule_file _ = None

-- where turns come from, by what the matches of a command hold for SCHEDULE, `--random` and `--turns`
pub record IsSourceIn (matches : List Row) (source : TurnsSource) : Type 0 where
  pub schedule : Option (Bor Text)
  pub seed : Option ℕ
  pub count : Option ℕ
  pub schedule_is : option_map (λ s. s.now) schedule ≡ first_of (codes "SCHEDULE") matches
  pub seed_is : IsNumberIn (first_of (codes "random") matches) seed
  pub count_is : IsNumberIn (first_of (codes "turns") matches) count
  pub source_is : source ≡ source_of schedule seed count

-- The number of instants that the text for a table spells, in decimal; there is none where there is no text.
-- The command line takes no other text than that of a number of instants that a table may have.
abbrev pub AreInstantsIn : Option Text → Option ℕ → Type 0
AreInstantsIn None instants = instants ≡ None
AreInstantsIn (Some text) instants = IsUnsignedIn 0 most_instants text
    → instants ≡ Some (digits_value 10 (without_leading_plus text))

-- there is a command, and it is `check`, `eval`, `new`, `plan`, `replay`, `run` or `explain`
pub record IsCommand (command : Option (Text × List Row)) : Type 0 where
  pub found : Text × List Row
  pub is : command ≡ Some found
  pub named : (found.0 ≡ codes "check")
      ⊎ ((found.0 ≡ codes "eval") ⊎ ((found.0 ≡ codes "new") ⊎ ((found.0 ≡ codes "plan")
      ⊎ ((found.0 ≡ codes "replay") ⊎ ((found.0 ≡ codes "run") ⊎ (found.0 ≡ codes "explain"))))))

-- The command is `check`, and the request is what its matches hold, argument by argument.
pub record IsCheckIn (command : Option (Text × List Row)) (request : CheckRequest) : Type 0 where
  pub matches : List Row
  pub named : command ≡ Some (codes "check", matches)
  pub main : request.main.now ≡ text_in matches (codes "main")
  pub explain : request.explain ≡ is_given matches (codes "explain")
  pub short : request.short ≡ is_given matches (codes "short")
  pub all : request.all ≡ is_given matches (codes "all")
  pub warn : request.warn ≡ is_given matches (codes "warn")
  pub program : request.program.now ≡ text_in matches (codes "PROGRAM")

-- The command is `eval`, and the request is what its matches hold, argument by argument.
pub record IsEvalIn (command : Option (Text × List Row)) (request : EvalRequest) : Type 0 where
  pub matches : List Row
  pub named : command ≡ Some (codes "eval", matches)
  pub main : request.main.now ≡ text_in matches (codes "main")
  pub explain : request.explain ≡ is_given matches (codes "explain")
  pub short : request.short ≡ is_given matches (codes "short")
  pub program : request.program.now ≡ text_in matches (codes "PROGRAM")
  pub table : request.table.now ≡ text_in matches (codes "TABLE")
  pub all : request.all ≡ is_given matches (codes "all")
  pub deep : request.deep ≡ is_given matches (codes "deep")
  pub chronogram : request.chronogram ≡ is_given matches (codes "chronogram")
  pub from : IsInstantIn (first_of (codes "from") matches) request.from
  pub to : IsInstantIn (first_of (codes "to") matches) request.to
  pub vcd : option_map (λ s. s.now) request.vcd ≡ first_of (codes "vcd") matches
  pub aligned : request.aligned ≡ is_given matches (codes "text")
  pub always : texts request.always.now ≡ texts_in matches (codes "always")

-- The command is `new`, and the request is what its matches hold, argument by argument.
pub record IsNewIn (command : Option (Text × List Row)) (request : NewRequest) : Type 0 where
  pub matches : List Row
  pub named : command ≡ Some (codes "new", matches)
  pub main : request.main.now ≡ text_in matches (codes "main")
  pub explain : request.explain ≡ is_given matches (codes "explain")
  pub short : request.short ≡ is_given matches (codes "short")
  pub program : request.program.now ≡ text_in matches (codes "PROGRAM")
  pub table : AreInstantsIn (first_of (codes "table") matches) request.table

-- The command is `plan`, and the request is what its matches hold, argument by argument.
pub record IsPlanIn (command : Option (Text × List Row)) (request : PlanRequest) : Type 0 where
  pub matches : List Row
  pub named : command ≡ Some (codes "plan", matches)
  pub main : request.main.now ≡ text_in matches (codes "main")
  pub explain : request.explain ≡ is_given matches (codes "explain")
  pub short : request.short ≡ is_given matches (codes "short")
  pub warn : request.warn ≡ is_given matches (codes "warn")
  pub program : request.program.now ≡ text_in matches (codes "PROGRAM")
  pub place : request.place.now ≡ text_in matches (codes "PLACE")
  pub form : request.form ≡ form_in matches

-- The command is `replay`, and the request is what its matches hold, argument by argument.
pub record IsReplayIn (command : Option (Text × List Row)) (request : ReplayRequest) : Type 0 where
  pub matches : List Row
  pub named : command ≡ Some (codes "replay", matches)
  pub main : request.main.now ≡ text_in matches (codes "main")
  pub explain : request.explain ≡ is_given matches (codes "explain")
  pub short : request.short ≡ is_given matches (codes "short")
  pub program : request.program.now ≡ text_in matches (codes "PROGRAM")
  pub place : request.place.now ≡ text_in matches (codes "PLACE")
  pub table : request.table.now ≡ text_in matches (codes "TABLE")
  pub source : IsSourceIn matches request.source
  pub finish : request.finish ≡ is_given matches (codes "finish")
  pub turns : request.turns ≡ turns_in matches
  pub vcd : option_map (λ s. s.now) request.vcd ≡ first_of (codes "vcd") matches
  pub messages : request.messages ≡ is_given matches (codes "messages")
  pub blocked : request.blocked ≡ is_given matches (codes "blocked")
  pub from : IsInstantIn (first_of (codes "from") matches) request.from
  pub to : IsInstantIn (first_of (codes "to") matches) request.to
  pub always : texts request.always.now ≡ texts_in matches (codes "always")

-- The command is `run`, and the request is what its matches hold, argument by argument.
pub record IsRunIn (command : Option (Text × List Row)) (request : RunRequest) : Type 0 where
  pub matches : List Row
  pub named : command ≡ Some (codes "run", matches)
  pub main : request.main.now ≡ text_in matches (codes "main")
  pub explain : request.explain ≡ is_given matches (codes "explain")
  pub short : request.short ≡ is_given matches (codes "short")
  pub program : request.program.now ≡ text_in matches (codes "PROGRAM")
  pub place : request.place.now ≡ text_in matches (codes "PLACE")
  pub table : request.table.now ≡ text_in matches (codes "TABLE")
  pub workers : option_map (λ s. s.now) request.workers ≡ first_of (codes "workers") matches
  pub progress : request.progress ≡ is_given matches (codes "progress")
  pub items : request.items ≡ is_given matches (codes "items")
  pub stats : request.stats ≡ is_given matches (codes "stats")
  pub vcd : option_map (λ s. s.now) request.vcd ≡ first_of (codes "vcd") matches
  pub always : texts request.always.now ≡ texts_in matches (codes "always")

-- The command is `explain`, and the request has the code that its matches hold, where they hold one.
pub record IsExplainIn (command : Option (Text × List Row)) (request : ExplainRequest) : Type 0 where
  pub matches : List Row
  pub named : command ≡ Some (codes "explain", matches)
  pub code : option_map (λ s. s.now) request.code ≡ first_of (codes "CODE") matches

-- the request is for the command, with what its matches hold
abbrev pub IsFoundIn : Option (Text × List Row) → Request → Type 0
IsFoundIn command (Check request) = IsCheckIn command request
IsFoundIn command (Eval request) = IsEvalIn command request
IsFoundIn command (New request) = IsNewIn command request
IsFoundIn command (Plan request) = IsPlanIn command request
IsFoundIn command (Replay request) = IsReplayIn command request
IsFoundIn command (Run request) = IsRunIn command request
IsFoundIn command (Explain request) = IsExplainIn command request

-- The request is for the command that the words name, with what they give its arguments.
abbrev pub IsAskedBy : List Text → Request → Type 0
IsAskedBy words request = IsFoundIn (subcommand_of lusdist words) request
