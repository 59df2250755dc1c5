-- What is held of some flows, laid out by the places of all.
use Rattle.std.specs.Prelude.{ℕ, List, [], ◌∷◌, replicate, slice_set}

-- these items put at these places of a list
unfoldable pub put_at : {X : Type 0} → List X → List ℕ → List X → List X
put_at base [] xs = base
put_at base (p ∷ ps) [] = base
put_at base (p ∷ ps) (x ∷ xs) = slice_set (put_at base ps xs) p x

-- a list of so many places that has these items at these of them, and this one at all others
abbrev pub spread : {X : Type 0} → ℕ → X → List ℕ → List X → List X
spread n other places xs = put_at (replicate n other) places xs
