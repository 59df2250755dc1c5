-- The words of the call.
use Rattle.std.specs.Prelude.{ℕ, List, [], ◌∷◌, codes}

abbrev pub words : List (List ℕ)
words =
    codes "lusdist" ∷ codes "replay" ∷ codes "design" ∷ codes "placement" ∷ codes "table" ∷ codes "schedule"
    ∷ codes "--finish" ∷ []
