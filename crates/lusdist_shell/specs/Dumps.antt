-- What is written into files.
use Rattle.std.specs.Prelude.{◌≡◌, ℕ, Bool, true, false, List, [], ◌∷◌, ◌++◌}
use Rattle.lusdist_shell.specs.declared.dumps.WriteError.{WriteError}
use Rattle.lusdist_shell.specs.declared.dumps.WriteError.TheVariants.{CannotWrite, OutOfMemory}

-- a write of these bytes into the file of a path: all of them were written, or the write failed
pub record Written : Type 0 where
  pub path : List ℕ
  pub bytes : List ℕ
  pub whole : Bool

-- one write more, of all bytes
abbrev pub written_whole : List Written → List ℕ → List ℕ → List Written
written_whole old path bytes = old ++ record { path = path; bytes = bytes; whole = true } ∷ []

-- one write more, which failed; or none, where memory ran out
abbrev pub HasFailed : List Written → List Written → List ℕ → List ℕ → WriteError → Type 0
HasFailed old new path bytes CannotWrite =
    new ≡ old ++ record { path = path; bytes = bytes; whole = false } ∷ []
HasFailed old new path bytes OutOfMemory = new ≡ old

-- what is known of paths: that two of them may name one file; that no file can be written at one
pub record DumpFacts : Type 1 where
  pub same : List ℕ → List ℕ → Type 0
  pub shut : List ℕ → Type 0
