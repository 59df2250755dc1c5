-- What the names at a path begin with, and the way to a path.
use Rattle.std.proofs.Common.{◌≡◌, ◌∙◌, ◌<◌, ◌++◌, ◌∷◌, [], ℕ, suc, inl, inr, List, take, length, Option, Some, None, refl, sym, ap, ap₂, arith, append_assoc, length-append}
use Rattle.std.specs.Prelude.{◌⊎◌, slice_get, option_and_then, codes}
use Rattle.std.proofs.lemmas.List.{append-nil}
use Rattle.lutree.specs.Tree.{NodeTree, ProgramTree}
use Rattle.lustat_rules.specs.Scope.{node_called}
use Rattle.lusource.specs.Names.{name_at}
use Rattle.lusource.specs.Source.{Path}
use Rattle.lusource.specs.Instances.{called_in, instance_at}
use Rattle.luinside.specs.Listed.{ComesBefore}
use Rattle.luinside.specs.declared.way.Level.{Level}
use Rattle.luinside.specs.Names.{steps_of, steps_in, prefix}
use Rattle.luinside.proofs.Calling.{name_at_some}

-- STEPS

-- the first step of a path at which there is an instance
record Step (p : ProgramTree) (f : List ℕ) (k : ℕ) (rest : Path) (node : NodeTree) : Type 0 where
  pub name : List ℕ
  pub named : slice_get (called_in (node_called p f)) k ≡ Some name
  pub then : instance_at p name rest ≡ Some node

step : (p : ProgramTree) (f : List ℕ) (k : ℕ) (rest : Path) (node : NodeTree) → instance_at p f (k ∷ rest) ≡ Some node → Step p f k rest node
step p f k rest node e = go (slice_get (called_in (node_called p f)) k) refl e
  where
    go : (o : Option (List ℕ)) → slice_get (called_in (node_called p f)) k ≡ o → option_and_then (λ g. instance_at p g rest) o ≡ Some node → Step p f k rest node
    go None at h = cc
    go (Some g) at h = record { name = g; named = at; then = h }

-- the instance that makes the last call of a path
pub parent : (p : ProgramTree) (r : Path) (k : ℕ) (f : List ℕ) (node : NodeTree) → instance_at p f (r ++ k ∷ []) ≡ Some node → (n : NodeTree) × (instance_at p f r ≡ Some n)
parent p [] k f node e = go (node_called p f) refl (step p f k [] node e).named
  where
    go : (o : Option NodeTree) → node_called p f ≡ o → slice_get (called_in o) k ≡ Some (step p f k [] node e).name → (n : NodeTree) × (node_called p f ≡ Some n)
    go None at h = cc
    go (Some n) at h = (n, at)
parent p (j ∷ r) k f node e =
    let s = step p f j (r ++ k ∷ []) node e in
    let n = parent p r k s.name node s.then in
    (n.0, ap (option_and_then (λ g. instance_at p g r)) s.named ∙ n.1)

-- what the names inside one more call begin with
pub prefix_more : (p : ProgramTree) (r : Path) (k : ℕ) (f : List ℕ) (node : NodeTree) → instance_at p f r ≡ Some node → prefix p f (r ++ k ∷ []) ≡ prefix p f r ++ (name_at (steps_of node) k ++ codes ".")
prefix_more p [] k f node e = ap (λ o. name_at (steps_in o) k ++ codes ".") e
prefix_more p (j ∷ r) k f node e =
    let s = step p f j r node e in
    let here = name_at (steps_in (node_called p f)) j in
    let last = name_at (steps_of node) k ++ codes "." in
    let g = name_at (called_in (node_called p f)) j in
    let same : s.name ≡ g = sym (name_at_some (called_in (node_called p f)) j s.name s.named) in
    let more : prefix p g (r ++ k ∷ []) ≡ prefix p g r ++ last = sym (ap (λ g. prefix p g (r ++ k ∷ [])) same) ∙ prefix_more p r k s.name node s.then ∙ ap (λ g. prefix p g r ++ last) same in
    ap (λ l. here ++ (codes "." ++ l)) more ∙ ap (λ l. here ++ l) (sym (append_assoc (codes ".") (prefix p g r) last)) ∙ sym (append_assoc here (codes "." ++ prefix p g r) last)

-- THE ORDER OF PATHS

pub last_of : (path : Path) → 0 < length path → (r : Path) × (k : ℕ) × (path ≡ r ++ k ∷ [])
last_of [] lt = absurd (omega (arith, lt))
last_of (k ∷ []) lt = ([], k, refl)
last_of (k ∷ (j ∷ path)) lt = let h = last_of (j ∷ path) (omega arith) in (k ∷ h.0, h.1, ap (λ l. k ∷ l) h.2)

-- what comes from a path on and before one of its calls goes on from it
pub between : (r l : Path) (k : ℕ) → (l ≡ r) ⊎ ComesBefore r l → ComesBefore l (r ++ k ∷ []) → (s : Path) × (l ≡ r ++ s)
between [] l k h h' = (l, refl)
between (i ∷ r) l k (inl e) h' = ([], e ∙ sym (append-nil (i ∷ r)))
between (i ∷ r) [] k (inr h) h' = absurd h
between (i ∷ r) (j ∷ l) k (inr (inl lt)) (inl lt') = absurd (omega (arith, lt, lt'))
between (i ∷ r) (j ∷ l) k (inr (inl lt)) (inr (e, h')) = absurd (omega (arith, lt, e))
between (i ∷ r) (j ∷ l) k (inr (inr (e, h))) (inl lt') = absurd (omega (arith, e, lt'))
between (i ∷ r) (j ∷ l) k (inr (inr (e, h))) (inr (e', h')) =
    let w = between r l k (inr h) h' in
    (w.0, ap₂ (λ (j : ℕ) (l : Path). j ∷ l) (sym e) w.1)

pub never_back : (r : Path) (k : ℕ) → ComesBefore (r ++ k ∷ []) r → ⊥
never_back [] k h = h
never_back (i ∷ r) k (inl lt) = omega (arith, lt)
never_back (i ∷ r) k (inr (e, h)) = never_back r k h

pub never_same : (r : Path) (k : ℕ) → r ++ k ∷ [] ≡ r → ⊥
never_same r k e = let n = ap length e in omega (arith, n, length-append r (k ∷ []))

-- THE WAY

module _ (p : ProgramTree) (main : List ℕ) where
  -- what is known of the instance at a path
  abbrev pub level_of : Path → Level
  level_of path = record { prefix = prefix p main path; steps = steps_in (instance_at p main path) }

  -- the levels from a path on, along another
  abbrev pub way_from : Path → Path → List Level
  way_from pre [] = level_of pre ∷ []
  way_from pre (k ∷ path) = level_of pre ∷ way_from (pre ++ k ∷ []) path

  pub way_at : (pre r s : Path) → slice_get (way_from pre (r ++ s)) (length r) ≡ Some (level_of (pre ++ r))
  way_at pre [] [] = ap (λ q. Some (level_of q)) (sym (append-nil pre))
  way_at pre [] (k ∷ s) = ap (λ q. Some (level_of q)) (sym (append-nil pre))
  way_at pre (k ∷ r) s = way_at (pre ++ k ∷ []) r s ∙ ap (λ q. Some (level_of q)) (append_assoc pre (k ∷ []) r)

  pub way_more : (pre r s : Path) (k : ℕ) → take (suc (length r)) (way_from pre (r ++ s)) ++ level_of (pre ++ (r ++ k ∷ [])) ∷ [] ≡ way_from pre (r ++ k ∷ [])
  way_more pre [] [] k = refl
  way_more pre [] (j ∷ s) k = refl
  way_more pre (i ∷ r) s k =
      let n = suc (length r) in
      let rest = take n (way_from (pre ++ i ∷ []) (r ++ s)) in
      ap (λ q. level_of pre ∷ (rest ++ level_of q ∷ [])) (sym (append_assoc pre (i ∷ []) (r ++ k ∷ []))) ∙ ap (λ l. level_of pre ∷ l) (way_more (pre ++ i ∷ []) r s k)
