-- In which scopes of a dump a flow stands: `m.avg#1.mean` is `mean` in scope `avg#1` of scope `m`. The flow of
-- a main variable, whose name has no dot, is in none.
use Rattle.std.specs.Prelude.{ℕ, Bool, nat_eq, List, [], ◌∷◌, ◌++◌, flat_map, codes, if◌then◌else◌}
use Rattle.std.specs.Str.{bytes_eq}

abbrev pub is_dot : ℕ → Bool
is_dot b = nat_eq b 46

-- the parts of a name that end at a dot, of which the first goes on from some bytes
abbrev pub scopes_from : List ℕ → List ℕ → List (List ℕ)
scopes_from part [] = []
scopes_from part (b ∷ bs) = if is_dot b then part ∷ scopes_from [] bs else scopes_from (part ++ b ∷ []) bs

abbrev pub scopes : List ℕ → List (List ℕ)
scopes name = scopes_from [] name

-- what stands behind the last dot
abbrev pub own_from : List ℕ → List ℕ → List ℕ
own_from part [] = part
own_from part (b ∷ bs) = if is_dot b then own_from [] bs else own_from (part ++ b ∷ []) bs

abbrev pub own_name : List ℕ → List ℕ
own_name name = own_from [] name

-- the beginning of a scope, and the end of one
abbrev pub opened : List ℕ → List ℕ
opened scope = codes "$scope module " ++ (scope ++ codes " $end\n")

abbrev pub ended : List ℕ → List ℕ
ended scope = codes "$upscope $end\n"

-- from some scopes to others: those that both begin with stay open
abbrev pub moved : List (List ℕ) → List (List ℕ) → List ℕ
moved (a ∷ from) (b ∷ to) =
    if bytes_eq a b then moved from to
    else flat_map ended (a ∷ from) ++ flat_map opened (b ∷ to)
moved from to = flat_map ended from ++ flat_map opened to
