-- The instances that a list goes through, from one on.
use Rattle.std.specs.Prelude.{ℕ, suc, zero, ◌+◌, List, [], ◌∷◌, ◌++◌, Option, Some, None, slice_get}
use Rattle.lutree.specs.Tree.{ProgramTree}
use Rattle.lusource.specs.Source.{Path}
use Rattle.luinside.specs.declared.starts.CallStart.{CallStart}
use Rattle.luinside.specs.declared.listing.Instance.{Instance}
use Rattle.luinside.specs.Starts.{starts_in}

-- what there is for each call of some, of which the first has number k
abbrev pub each_call : (ℕ → CallStart → List Instance) → ℕ → List CallStart → List Instance
each_call inner k [] = []
each_call inner k (c ∷ cs) = inner k c ++ each_call inner (suc k) cs

-- what there is for the node of a call, if it means one
abbrev pub of_node : Option ℕ → (ℕ → List Instance) → List Instance
of_node None inner = []
of_node (Some i) inner = inner i

-- The instance at a path, of the node at place i of the text, whose first variable stands at place s, and
-- those inside it to which d calls lead at most: each before those that it calls, and these in order of the
-- calls.
module _ (p : ProgramTree) (sizes : List ℕ) where
  abbrev pub all_from : ℕ → Path → ℕ → ℕ → List Instance
  all_from zero path i s = record { path = path; node = i; start = s } ∷ []
  all_from (suc d) path i s =
      record { path = path; node = i; start = s }
      ∷ each_call (λ k c. of_node c.node (λ j. all_from d (path ++ k ∷ []) j (s + c.at))) 0
      (starts_in p sizes (slice_get p.nodes i))
