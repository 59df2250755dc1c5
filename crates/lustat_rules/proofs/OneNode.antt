-- Programs of one node.
use Rattle.std.proofs.Common.{◌≡◌, ℕ, zero, suc, ◌+◌, List, [], ◌∷◌, Some, ap, subst, arith}
use Rattle.std.specs.Prelude.{slice_get, unwrap_or}
use Rattle.lutree.specs.Tree.{TypeTree, DeclarationTree, EquationTree, NodeTree, ProgramTree, program_of}
use Rattle.lustat_rules.specs.Scope.{declarations_of}
use Rattle.lustat_rules.specs.Accepted.{Rule, ProgramKeeps, TypeKeeps, NameKeeps, NodeKeeps, DeclarationKeeps, EquationKeeps, Keeps}
use Rattle.lustat_rules.proofs.Worked.{none_is_some}

-- a fact of each element and its place, counted from a number on
abbrev pub EachFrom : {A : Type 0} → (ℕ → A → Type 0) → ℕ → List A → Type 0
EachFrom P i [] = Unit {0}
EachFrom P i (x ∷ xs) = P i x × EachFrom P (suc i) xs

pub each_from : {A : Type 0} (P : ℕ → A → Type 0) (i : ℕ) (xs : List A) → EachFrom P i xs → (j : ℕ) (x : A) → slice_get xs j ≡ Some x → P (j + i) x
each_from P i [] h j x e = absurd (none_is_some e)
each_from P i (y ∷ ys) h zero x e =
    let same : i ≡ 0 + i = omega arith in
    subst (λ k. P k x) same (subst (P i) (ap (λ o. unwrap_or o y) e) h.0)
each_from P i (y ∷ ys) h (suc j) x e =
    let same : j + suc i ≡ suc j + i = omega arith in
    subst (λ k. P k x) same (each_from P (suc i) ys h.1 j x e)

pub each : {A : Type 0} (P : ℕ → A → Type 0) (xs : List A) → EachFrom P 0 xs → (j : ℕ) (x : A) → slice_get xs j ≡ Some x → P j x
each P xs h j x e =
    let same : j + 0 ≡ j = omega arith in
    subst (λ k. P k x) same (each_from P 0 xs h j x e)

module _ (types : List TypeTree) (s : NodeTree) (main : List ℕ) (r : Rule) where
  abbrev p : ProgramTree
  p = record { types = types; nodes = s ∷ [] }

  pub keeps_typed : ProgramKeeps p main r → EachFrom (TypeKeeps p main r) 0 types → EachFrom (λ i (t : TypeTree). EachFrom (NameKeeps p main r i t) 0 t.names) 0 types
      → NodeKeeps p main r 0 s → EachFrom (DeclarationKeeps p main r s) 0 (declarations_of s) → EachFrom (EquationKeeps p main r s) 0 s.equations → Keeps p main r
  keeps_typed program own names node declarations equations =
      record {
        program = program;
        types = λ i t e. each (TypeKeeps p main r) types own i t e;
        names = λ i j t x e at. each (NameKeeps p main r i t) t.names (each (λ k (u : TypeTree). EachFrom (NameKeeps p main r k u) 0 u.names) types names i t e) j x at;
        nodes = λ i n e. each (NodeKeeps p main r) (s ∷ []) (node, tt) i n e;
        declarations = λ i j n d e at.
            each (λ k m. (l : ℕ) (b : DeclarationTree) → slice_get (declarations_of m) l ≡ Some b → DeclarationKeeps p main r m l b) (s ∷ [])
            ((λ l b h. each (DeclarationKeeps p main r s) (declarations_of s) declarations l b h), tt) i n e j d at;
        equations = λ i j n q e at.
            each (λ k (m : NodeTree). (l : ℕ) (b : EquationTree) → slice_get m.equations l ≡ Some b → EquationKeeps p main r m l b) (s ∷ [])
            ((λ l b h. each (EquationKeeps p main r s) s.equations equations l b h), tt) i n e j q at;
      }

module _ (s : NodeTree) (main : List ℕ) (r : Rule) where
  abbrev alone : ProgramTree
  alone = program_of (s ∷ [])

  pub keeps_one : ProgramKeeps alone main r → NodeKeeps alone main r 0 s → EachFrom (DeclarationKeeps alone main r s) 0 (declarations_of s) → EachFrom (EquationKeeps alone main r s) 0 s.equations
      → Keeps alone main r
  keeps_one program node declarations equations = keeps_typed [] s main r program tt tt node declarations equations
