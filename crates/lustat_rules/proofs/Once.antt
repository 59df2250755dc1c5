-- Each variable has one equation.
use Rattle.std.proofs.Common.{◌≡◌, ◌<◌, ℕ, zero, suc, List, [], ◌∷◌, Option, Some, sym, ap, subst, take, arith}
use Rattle.std.specs.Prelude.{slice_get, unwrap_or, Contains}
use Rattle.std.proofs.lemmas.List.Elements.{All-contains, Contains-append_left, Contains-append_right}
use Rattle.lutree.specs.Tree.{EquationTree, NodeTree}
use Rattle.lustat_rules.specs.Scope.{lefts_of}
use Rattle.lustat_rules.specs.Naming.{DefinesAnew, IsDefinedOnce}
use Rattle.lustat_rules.proofs.Worked.{none_below, none_is_some}

-- what an equation defines stands on the left sides up to any place after it
lefts_before : (xs : List EquationTree) (i j : ℕ) (q : EquationTree) (x : List ℕ) → slice_get xs i ≡ Some q → i < j → Contains q.left x → Contains (lefts_of (take j xs)) x
lefts_before [] i j q x e l at = absurd (none_is_some e)
lefts_before (y ∷ ys) i zero q x e l at = absurd (none_below l)
lefts_before (y ∷ ys) zero (suc j) q x e l at =
    Contains-append_left y.left (lefts_of (take j ys)) x (subst (λ (r : EquationTree). Contains r.left x) (sym (ap (λ (o : Option EquationTree). unwrap_or o y) e)) at)
lefts_before (y ∷ ys) (suc i) (suc j) q x e l at =
    Contains-append_right y.left (lefts_of (take j ys)) x (lefts_before ys i j q x e (omega (arith, l)) at)

module _ (n : NodeTree) (anew : (i : ℕ) (q : EquationTree) → slice_get n.equations i ≡ Some q → DefinesAnew n i q) where
  not_before : (i j : ℕ) (q r : EquationTree) (x : List ℕ) → slice_get n.equations i ≡ Some q → slice_get n.equations j ≡ Some r → Contains q.left x → Contains r.left x → ¬ (i < j)
  not_before i j q r x e f at there l =
      All-contains (λ y. ¬ Contains (lefts_of (take j n.equations)) y) r.left x (anew j r f).first there (lefts_before n.equations i j q x e l at)

  pub defined_once : IsDefinedOnce n
  defined_once i j q r x e f at there =
      let a = not_before i j q r x e f at there in
      let b = not_before j i r q x f e there at in
      omega (arith, a, b)
