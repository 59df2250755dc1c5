-- What is told of a refusal: its line, and, where the words ask for it, the place in the text that is refused,
-- what is wrong there, and how to mend it; or all faults.
use Rattle.std.specs.Prelude.{◌≡◌, ◌⊎◌, ℕ, true, Bool, false, List, [], ◌∷◌, ◌++◌, codes, Option, None, Some}
use Rattle.std.specs.Prelude.{length, nat_eq, if◌then◌else◌, string_bytes, unwrap_or}
use Rattle.std.specs.List.{flat_map}
use Rattle.std.specs.Fmt.{decimal}
use Rattle.lutree.specs.declared.program.Program.{Program}
use Rattle.lutree.specs.Places.{places_view}
use Rattle.lutree.specs.Tree.{program_view}
use Rattle.lustat_rules.specs.declared.error.StatError.{StatError}
use Rattle.lustat.specs.AllFaults.{AreOfFirstStage}
use Rattle.luexplain.specs.declared.said.Explanation.{Explanation}
use Rattle.luexplain.specs.declared.refused.SyntaxRefusal.{SyntaxRefusal}
use Rattle.luexplain.specs.Refusals.{AreRefusals}
use Rattle.luexplain.specs.Place.{line_behind, place}
use Rattle.luexplain.specs.Explanations.{whole, IsRulePlace}
use Rattle.luexplain.specs.Syntax.{place_of_syntax}
use Rattle.luexplain.specs.Texts.{place_of_schedule}
use Rattle.lusyn.specs.declared.error.SynError.TheVariants as texts
use Rattle.lusyn.specs.Places.{ArePlacesOf}
use Rattle.lusyn.specs.Texts.{SpellsText}
use Rattle.lusdist_shell.specs.declared.request.Request.{Request}
use Rattle.lusdist_shell.specs.declared.request.Request.TheVariants.{Check, Eval, New, Plan, Replay, Run, Explain}
use Rattle.lusdist_shell.specs.declared.sink.Sink.{Sink}
use Rattle.lusdist_shell.specs.Request.{schedule_file}
use Rattle.lusdist_shell.specs.Sinks.{HasPut}
use Rattle.lusdist_call.specs.Lines.{line_of, named}
use Rattle.lusdist_call.specs.declared.call_error.CallError.{CallError}
use Rattle.lusdist_call.specs.declared.call_error.CallError.TheVariants.{CannotRead, NotAscii, Syntax, Rules}
use Rattle.lusdist_call.specs.declared.call_error.CallError.TheVariants.{Place, Table, Schedule, Fault}
use Rattle.lusdist_call.specs.Faulted.{IsFaultReason}
use Rattle.lusdist_shell.specs.Files.{FileFacts}

-- whether a request asks why a text is refused
abbrev pub asks_why : Request → Bool
asks_why (Check request) = request.explain
asks_why (Eval request) = request.explain
asks_why (New request) = request.explain
asks_why (Plan request) = request.explain
asks_why (Replay request) = request.explain
asks_why (Run request) = request.explain
asks_why (Explain request) = false

-- whether a request asks for a refusal in one line, with its place
abbrev pub asks_short : Request → Bool
asks_short (Check request) = request.short
asks_short (Eval request) = request.short
asks_short (New request) = request.short
asks_short (Plan request) = request.short
asks_short (Replay request) = request.short
asks_short (Run request) = request.short
asks_short (Explain request) = false

-- whether a request asks for all faults, where a rule is broken
abbrev pub asks_all : Request → CallError → Bool
asks_all (Check request) (Rules e) = request.all
asks_all _ _ = false

-- whether it asks for all refusals of a text that is no program
abbrev pub asks_all_places : Request → CallError → Bool
asks_all_places (Check request) (Syntax e) = request.all
asks_all_places (Check request) NotAscii = request.all
asks_all_places _ _ = false

-- FILES

-- the name of the main node, empty where a request names none
abbrev pub main_name : Request → List ℕ
main_name (Check request) = request.main.now
main_name (Eval request) = request.main.now
main_name (New request) = request.main.now
main_name (Plan request) = request.main.now
main_name (Replay request) = request.main.now
main_name (Run request) = request.main.now
main_name (Explain request) = []

-- the paths that a request names, each empty where it names none
abbrev pub program_path : Request → List ℕ
program_path (Check request) = request.program.now
program_path (Eval request) = request.program.now
program_path (New request) = request.program.now
program_path (Plan request) = request.program.now
program_path (Replay request) = request.program.now
program_path (Run request) = request.program.now
program_path (Explain request) = []

abbrev pub place_path : Request → List ℕ
place_path (Plan request) = request.place.now
place_path (Replay request) = request.place.now
place_path (Run request) = request.place.now
place_path _ = []

abbrev pub table_path : Request → List ℕ
table_path (Eval request) = request.table.now
table_path (Replay request) = request.table.now
table_path (Run request) = request.table.now
table_path _ = []

abbrev pub schedule_path : Request → List ℕ
schedule_path (Replay request) = unwrap_or (schedule_file request.source) []
schedule_path _ = []

-- the path of the text that a stop is about
abbrev pub blamed_path : Request → CallError → List ℕ
blamed_path request (Place e) = place_path request
blamed_path request (Table e) = table_path request
blamed_path request (Schedule e) = schedule_path request
blamed_path request _ = program_path request

-- PLACES

-- Where a stop stands in the text of this path: of a refused text and of a refused schedule exactly at the
-- byte that the line reports; of a rule that an equation breaks at that byte or behind it in the equation; else
-- at some byte, or in the whole; of a file that can't be read it is the path of that file.
abbrev pub StandsAt : List ℕ → List ℕ → CallError → List ℕ → Type 0
StandsAt path text NotAscii at = at ≡ place_of_syntax path text texts.NotAscii
StandsAt path text (Syntax e) at = at ≡ place_of_syntax path text e
StandsAt path text (Rules e) at = IsRulePlace path text e at
StandsAt path text (Schedule e) at = at ≡ place_of_schedule path text e
StandsAt path text (CannotRead name) at = at ≡ whole name
StandsAt path text _ at = ((byte : ℕ) × (at ≡ place path text byte)) ⊎ (at ≡ whole path)

-- what the file of a path gave: a text; nothing, where it is the file that can't be read
abbrev pub IsGivenFor : FileFacts → List ℕ → CallError → List ℕ → Type 0
IsGivenFor gives path (CannotRead name) text = gives name None
IsGivenFor gives path _ text = gives path (Some text)

-- the reason of a stop, by what the file of the path gave
pub record IsReason (gives : FileFacts) (path : List ℕ) (stop : CallError) (reason : Explanation) : Type 0 where
  pub text : List ℕ
  pub given : IsGivenFor gives path stop text
  pub stands : StandsAt path text stop (string_bytes reason.place)

-- the same of what a request asks for: of a fault by the program and the table
abbrev pub IsReasonOf : FileFacts → Request → CallError → Explanation → Type 0
IsReasonOf gives request (Fault variable instant kind) reason =
    IsFaultReason gives (program_path request) (main_name request) (table_path request) variable instant kind reason
IsReasonOf gives request stop reason = IsReason gives (blamed_path request stop) stop reason

-- ONE REFUSAL

-- its line, and behind it a place, a line of what is wrong, and a line of how to mend it
abbrev pub explained_line : List ℕ → Explanation → List ℕ
explained_line line reason =
    line ++ codes "\n" ++ string_bytes reason.place ++ string_bytes reason.what ++ codes "\n"
    ++ string_bytes reason.mend ++ codes "\n"

-- one line as compilers report: `PATH:LINE:COLUMN: CODE NAME: what is wrong`
abbrev pub short_line : List ℕ → Explanation → List ℕ
short_line line reason =
    line_behind (string_bytes reason.place) ++ codes ": " ++ named line ++ codes ": "
    ++ string_bytes reason.what ++ codes "\n"

-- the same of a stop
abbrev pub explained_text : CallError → Explanation → List ℕ
explained_text stop = explained_line (line_of stop)

abbrev pub short_text : CallError → Explanation → List ℕ
short_text stop = short_line (line_of stop)

-- A refusal as it is told: in one line with its place where that is asked for; else with its reason behind its
-- line, where that is asked for. Or its line alone, as where nothing is asked for, no text is to blame, its
-- file can't be read again, or memory runs out.
pub data IsTold (gives : FileFacts) (request : Request) (stop : CallError) (told : List ℕ) : Type 0 where
  alone : told ≡ line_of stop ++ codes "\n" → IsTold gives request stop told
  explained : (reason : Explanation) → asks_why request ≡ true → asks_short request ≡ false
      → IsReasonOf gives request stop reason → told ≡ explained_text stop reason
      → IsTold gives request stop told
  short : (reason : Explanation) → asks_short request ≡ true
      → IsReasonOf gives request stop reason → told ≡ short_text stop reason
      → IsTold gives request stop told

-- ALL FAULTS

-- all faults of the first stage that has any, of the program that the file of the path spells
pub record AreFaultsAt (gives : FileFacts) (path main : List ℕ) (faults : List StatError) : Type 0 where
  pub bytes : List ℕ
  pub given : gives path (Some bytes)
  pub program : Program
  pub spelled : SpellsText bytes (program_view program)
  pub placed : ArePlacesOf bytes (places_view program)
  pub are : AreOfFirstStage program main faults

-- faults as they are told, one behind the other
pub data AreTold (gives : FileFacts) (request : Request) : List StatError → List ℕ → Type 0 where
  none : AreTold gives request [] []
  more : (before : List StatError) (fault : StatError) (told one : List ℕ) → AreTold gives request before told
      → IsTold gives request (Rules fault) one
      → AreTold gives request (before ++ fault ∷ []) (told ++ one)

-- ALL REFUSALS OF A TEXT THAT IS NO PROGRAM

-- all refusals that are told of the bytes of the path's file, which are no program
pub record AreRefusalsAt (gives : FileFacts) (path : List ℕ) (found : List SyntaxRefusal) : Type 0 where
  pub bytes : List ℕ
  pub given : gives path (Some bytes)
  pub are : AreRefusals path bytes found

-- one as it is told: as the refusal of a whole text, with its reason
abbrev pub told_of : Request → SyntaxRefusal → List ℕ
told_of request r =
    if asks_short request then short_text (Syntax r.error) r.reason
    else (if asks_why request then explained_text (Syntax r.error) r.reason
    else line_of (Syntax r.error) ++ codes "\n")

-- refusals as they are told, one behind the other
abbrev pub all_told : Request → List SyntaxRefusal → List ℕ
all_told request = flat_map (told_of request)

-- how many there are
abbrev pub count_text : ℕ → List ℕ
count_text n = decimal n ++ (if nat_eq n 1 then codes " fault\n" else codes " faults\n")

-- What is told of a stop: of a rule that is broken, and of a text that is no program, where a check is asked
-- for all faults, each of them and how many there are, or, where memory runs out for that, the first and that
-- it did; else the stop alone.
pub data IsRefusalText (gives : FileFacts) (request : Request) (stop : CallError)
    (text : List ℕ) : Type 0 where
  one : asks_all request stop ≡ false → asks_all_places request stop ≡ false → IsTold gives request stop text
      → IsRefusalText gives request stop text
  each : (faults : List StatError) (told : List ℕ) → asks_all request stop ≡ true
      → AreFaultsAt gives (program_path request) (main_name request) faults
      → AreTold gives request faults told → text ≡ told ++ count_text (length faults)
      → IsRefusalText gives request stop text
  places : (found : List SyntaxRefusal) → asks_all_places request stop ≡ true
      → AreRefusalsAt gives (program_path request) found
      → text ≡ all_told request found ++ count_text (length found) → IsRefusalText gives request stop text
  cut : (asks_all request stop ≡ true) ⊎ (asks_all_places request stop ≡ true)
      → text ≡ line_of stop ++ codes "\nR2 OutOfMemory\n" → IsRefusalText gives request stop text

-- the error stream has what is told of a stop more
pub record HasRefusal {V : Type 0} (gives : FileFacts) (request : Request) (stop : CallError)
    (held : V → Option (List ℕ)) (old new : Sink V) : Type 0 where
  pub text : List ℕ
  pub told : IsRefusalText gives request stop text
  pub put : HasPut held old new text
