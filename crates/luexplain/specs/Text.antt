-- What is appended to a text.
use Rattle.std.specs.Prelude.{◌≡◌, ℕ, List, ◌++◌, Result, IfOk, string_bytes}
use Rattle.std.specs.declared.string.String.{String}
use Rattle.std.specs.declared.alloc.Global.{Global}

-- the text has these bytes more, unless memory ran out
abbrev pub Adds : {X E : Type 0} → Result X E → String Global → String Global → List ℕ → Type 0
Adds result old new more = IfOk result (λ _. string_bytes new ≡ string_bytes old ++ more)
