-- What a stream of the program was given.
use Rattle.std.specs.Prelude.{◌≡◌, ◌⊎◌, ℕ, true, List, [], ◌∷◌, ◌++◌, take, Option, IfSome}
use Rattle.std.specs.Io.KnownBytes.{Appends}
use Rattle.lusdist_shell.specs.declared.sink.Sink.{Sink}

-- the bytes stand behind what the stream held, unless a write failed
abbrev pub HasPut : {W : Type 0} → (W → Option (List ℕ)) → Sink W → Sink W → List ℕ → Type 0
HasPut contents old new bytes = (new.failed ≡ true) ⊎ Appends (contents old.writer)
    (contents new.writer) bytes

-- so does a line
abbrev pub HasLine : {W : Type 0} → (W → Option (List ℕ)) → Sink W → Sink W → List ℕ → Type 0
HasLine contents old new line = HasPut contents old new (line ++ 10 ∷ [])

-- so does what an error displays, as a line, where that is known
abbrev pub HasLineOf : {W : Type 0} → (W → Option (List ℕ)) → Sink W → Sink W → Option (List ℕ) → Type 0
HasLineOf contents old new output = IfSome output (HasLine contents old new)

-- the stream has a prefix of the bytes more: all of them, or those before a failing write
abbrev pub HasBeginning : {W : Type 0} → (W → Option (List ℕ)) → Sink W → Sink W → List ℕ → Type 0
HasBeginning contents old new bytes = (n : ℕ) × Appends (contents old.writer) (contents new.writer)
    (take n bytes)
