-- What files give.
use Rattle.std.specs.Prelude.{ℕ, List, Option, None}
use Rattle.lusdist_shell.specs.declared.files.ReadError.{ReadError}
use Rattle.lusdist_shell.specs.declared.files.ReadError.TheVariants.{CannotRead, OutOfMemory}

-- of a path: that a read may give these bytes, or none
abbrev pub FileFacts : Type 1
FileFacts = List ℕ → Option (List ℕ) → Type 0

-- the path gives none; or memory ran out, which says nothing of the file
abbrev pub IsMissed : (Option (List ℕ) → Type 0) → ReadError → Type 0
IsMissed gives (CannotRead why) = gives None
IsMissed gives OutOfMemory = Unit {0}
