-- How the flows of expressions are passed, in order of their places, up to one that is looked for.
use Rattle.std.specs.Prelude.{◌≡◌, ℕ, ◌+◌, ◌<◌, ◌≤◌, List, [], ◌∷◌, ◌++◌}
use Rattle.lutree.specs.Tree.{Tree, ProgramTree, view}
use Rattle.lusource.specs.Source.{calls}
use Rattle.luinside.specs.declared.passing.Here.{Here}
use Rattle.luinside.specs.declared.passing.Own.{Own}
use Rattle.luinside.specs.declared.passing.Reached.{Reached}
use Rattle.luinside.specs.declared.passing.Reached.TheVariants.{Behind, At}
use Rattle.luinside.specs.Parts.{operands, calls_among}
use Rattle.luinside.specs.Owns.{Among, own_size, sum_made, IsOwn}

-- given the sizes of all nodes, and the place that is looked for
module _ (p : ProgramTree) (sizes : List ℕ) (target : ℕ) where
  -- an expression among whose own flows the target is
  abbrev pub IsPart : Tree → ℕ → ℕ → List ℕ → Own → Type 0
  IsPart e s i rest x =
      IsOwn p sizes target e s i rest (view x.expression.now) x.here.place x.here.calls

  -- Where operands are passed one after another: what is reached behind all of these, or inside one of them,
  -- whose number is put behind the numbers before.
  abbrev pub PassesAll : List Tree → Here → List ℕ → List ℕ → Reached → Type 0
  PassesAll all h old new (Behind b) =
      (new ≡ old) × (b.place ≡ h.place + sum_made p sizes all) × (b.calls ≡ h.calls + calls_among all)
      × (b.place ≤ target)
  PassesAll all h old new (At x) =
      (n : ℕ) × (rest : List ℕ) × (new ≡ old ++ n ∷ rest) × (a : Among all n)
      × IsPart a.operand (h.place + sum_made p sizes a.front) (h.calls + calls_among a.front) rest x

  -- what is reached behind the flows of an expression, so many of them its own, or among them
  abbrev pub PassesOwn : Tree → ℕ → Here → List ℕ → List ℕ → Reached → Type 0
  PassesOwn e count h old new (Behind b) =
      (new ≡ old) × (b.place ≡ h.place + sum_made p sizes (operands e) + count)
      × (b.calls ≡ h.calls + calls e) × (b.place ≤ target)
  PassesOwn e count h old new (At x) =
      (rest : List ℕ) × (new ≡ old ++ rest) × IsPart e h.place h.calls rest x
      × (target < h.place + sum_made p sizes (operands e) + count)

  -- the same where the number of the expression is put behind the numbers before
  abbrev pub Enters : ℕ → Tree → ℕ → Here → List ℕ → List ℕ → Reached → Type 0
  Enters n e count h old new (Behind b) = PassesOwn e count h old new (Behind b)
  Enters n e count h old new (At x) = PassesOwn e count h (old ++ n ∷ []) new (At x)

  -- what is reached when an operand is passed after others: it is passed if nothing is found before
  abbrev pub Passes : ℕ → Tree → Reached → List ℕ → List ℕ → Reached → Type 0
  Passes n e (At x) old new reached = (new ≡ old) × (reached ≡ At x)
  Passes n e (Behind h) old new reached = Enters n e (own_size p sizes e) h old new reached

-- nothing is found so far, and the target isn't passed; or it is found
abbrev pub IsBefore : ℕ → Reached → Type 0
IsBefore target (Behind h) = h.place ≤ target
IsBefore target (At x) = Unit {0}

-- the last number is taken away, unless the target is reached
abbrev pub Leaves : Reached → List ℕ → List ℕ → Type 0
Leaves (Behind b) old new = (front : List ℕ) (n : ℕ) → old ≡ front ++ n ∷ [] → new ≡ front
Leaves (At x) old new = new ≡ old
