-- Where operands stand.
use Rattle.std.specs.Prelude.{ℕ, List, map}
use Rattle.lucore_build.specs.declared.operand.Operand.{Operand}

-- where the arguments of a call stand
abbrev pub places_of : List Operand → List ℕ
places_of = map (λ x. x.place)
