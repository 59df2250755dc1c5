-- The files that a call reads, and the file that its dump is written into.
use Rattle.std.specs.Prelude.{◌≡◌, ℕ, Bool, false, List, [], ◌∷◌, Option, Some, None, option_map}
use Rattle.lusdist_shell.specs.Dumps.{Written}
use Rattle.lusdist_shell.specs.Files.{FileFacts}
use Rattle.lusdist_shell.specs.declared.request.EvalRequest.{EvalRequest}
use Rattle.lusdist_shell.specs.declared.request.ReplayRequest.{ReplayRequest}
use Rattle.lusdist_shell.specs.declared.request.RunRequest.{RunRequest}
use Rattle.lusdist_shell.specs.declared.request.Request.{Request}
use Rattle.lusdist_shell.specs.declared.request.Request.TheVariants.{Check, Eval, New, Plan, Replay, Run, Explain}
use Rattle.lusdist_call.specs.declared.call_error.CallError.{CallError}
use Rattle.lusdist_call.specs.declared.call_error.CallError.TheVariants.{CannotRead, CannotWrite, OutOfMemory}

-- the file of this path can't be read, or memory ran out
abbrev pub IsUnread : FileFacts → List ℕ → CallError → Type 0
IsUnread gives path (CannotRead name) = (name ≡ path) × gives path None
IsUnread gives path OutOfMemory = Unit {0}
IsUnread gives path _ = ⊥

-- the path of the file that a request asks a dump to be written into
abbrev pub wave_path : EvalRequest → Option (List ℕ)
wave_path request = option_map (λ s. s.now) request.vcd

abbrev pub replay_path : ReplayRequest → Option (List ℕ)
replay_path request = option_map (λ s. s.now) request.vcd

abbrev pub run_path : RunRequest → Option (List ℕ)
run_path request = option_map (λ s. s.now) request.vcd

abbrev pub dump_path : Request → Option (List ℕ)
dump_path (Check request) = None
dump_path (Eval request) = wave_path request
dump_path (New request) = None
dump_path (Plan request) = None
dump_path (Replay request) = replay_path request
dump_path (Run request) = run_path request
dump_path (Explain request) = None

-- a dump, where a path for it is given
abbrev pub dump_for : Option (List ℕ) → List ℕ → Option (List ℕ)
dump_for path text = option_map (λ _. text) path

-- what is written where there are a path and a dump: one write, of all of it or one that failed
abbrev pub writes_of : Option (List ℕ) → Option (List ℕ) → Bool → List Written
writes_of None dump whole = []
writes_of (Some path) None whole = []
writes_of (Some path) (Some text) whole = record { path = path; bytes = text; whole = whole } ∷ []

-- Why a dump wasn't written, and what was: the one write failed; or memory ran out before it.
abbrev pub IsUnfiled : Option (List ℕ) → Option (List ℕ) → CallError → List Written → Type 0
IsUnfiled path dump (CannotWrite name) wrote = (text : List ℕ) × (path ≡ Some name) × (dump ≡ Some text)
    × (wrote ≡ writes_of path dump false)
IsUnfiled path dump OutOfMemory wrote = wrote ≡ []
IsUnfiled path dump _ wrote = ⊥
