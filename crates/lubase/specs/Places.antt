-- Where a name stands first in a row of names.
use Rattle.std.specs.Prelude.{◌≡◌, ℕ, ◌+◌, List, [], ◌∷◌, Option, Some, None, if◌then◌else◌}
use Rattle.std.specs.Str.{bytes_eq}
use Rattle.std.specs.BTreeMap.{BTreeMap, get_by}
use Rattle.std.specs.Cmp.Lexicographic.{slice_cmp}
use Rattle.std.specs.Ordering.{nat_cmp}
use denote.Ref.{Bor}

-- the place of a name's first occurrence, counted from a number on
abbrev pub place_from : ℕ → List (List ℕ) → List ℕ → Option ℕ
place_from i [] x = None
place_from i (y ∷ ys) x = if bytes_eq y x then Some i else place_from (i + 1) ys x

-- the place of a name's first occurrence, counted from 0
abbrev pub first_place : List (List ℕ) → List ℕ → Option ℕ
first_place = place_from 0

-- a look-up that gives the place of each name's first occurrence
abbrev pub IsPlaces : (List ℕ → Option ℕ) → List (List ℕ) → Type 0
IsPlaces look_up names = (x : List ℕ) → look_up x ≡ first_place names x

-- what a tree of lent names has at a name's bytes
abbrev pub looked_up : BTreeMap (Bor (List ℕ)) ℕ → List ℕ → Option ℕ
looked_up tree x = get_by (λ k. slice_cmp nat_cmp x k.now) tree
