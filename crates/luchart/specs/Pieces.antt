-- Pieces of which a text is put together.
use Rattle.std.specs.Prelude.{◌≡◌, ℕ, zero, suc, ◌-◌, max, List, [], ◌∷◌, ◌++◌, length, codes, Result, IfOk}
use Rattle.std.specs.Prelude.{string_bytes}
use Rattle.std.specs.declared.string.String.{String}
use Rattle.std.specs.declared.alloc.Global.{Global}

-- The text has these bytes more, unless memory ran out.
abbrev pub Adds : {X E : Type 0} → Result X E → String Global → String Global → List ℕ → Type 0
Adds result old new more = IfOk result (λ _. string_bytes new ≡ string_bytes old ++ more)

-- a piece so many times
abbrev pub repeated : List ℕ → ℕ → List ℕ
repeated piece zero = []
repeated piece (suc n) = repeated piece n ++ piece

abbrev pub blanks : ℕ → List ℕ
blanks n = repeated (codes " ") n

-- a text at the right of a cell of this width, which a longer text widens
abbrev pub at_right : ℕ → List ℕ → List ℕ
at_right width text = blanks (width - length text) ++ text

-- a text at the left of such a cell
abbrev pub at_left : ℕ → List ℕ → List ℕ
at_left width text = text ++ blanks (width - length text)

-- a text at the left of such a cell, and this piece in the rest of it
abbrev pub filled : ℕ → List ℕ → List ℕ → List ℕ
filled width piece text = text ++ repeated piece (width - length text)

-- the largest of these numbers, and 0 where there is none
abbrev pub largest : List ℕ → ℕ
largest [] = 0
largest (n ∷ ns) = max n (largest ns)
