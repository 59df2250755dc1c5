-- The branches of a merge, from one of them on.
use Rattle.std.proofs.Common.{◌≡◌, ◌∙◌, ◌↔◌, ◌≤◌, ◌+◌, ℕ, suc, Bool, nat_eq, List, [], ◌∷◌, length, drop, IsTrue, refl, sym, subst, arith, length-drop}
use Rattle.std.proofs.lemmas.Bool.Decides.{nat_tests}
use Rattle.lutree.specs.declared.expr.Expr.{Expr}
use Rattle.lutree.specs.declared.expr.Pattern.{Pattern}
use Rattle.lutree.specs.Tree.{NodeTree, views, trees_of}
use Rattle.lustat_rules.specs.Clocks.{BranchesFitInside}

abbrev pub FitFrom : NodeTree → List ℕ → List Pattern → List Expr → ℕ → Type 0
FitFrom n c ps es i = BranchesFitInside n c (drop i ps) (trees_of (views (drop i es)))

none_left : {A : Type 0} (xs : List A) → length xs ≡ 0 → xs ≡ []
none_left [] e = refl
none_left (x ∷ xs) e = absurd (omega (arith, e))

fit_none : (n : NodeTree) (c : List ℕ) (ps : List Pattern) (b : Bool) → b ≡ nat_eq (length ps) 0 → IsTrue b ↔ BranchesFitInside n c ps (trees_of [])
fit_none n c [] b e = (λ h. tt, λ h. e)
fit_none n c (p ∷ ps) b e = (λ h. absurd (let z : suc (length ps) ≡ 0 = grind (arith, nat_tests) in omega (arith, z)), λ h. absurd h)

same_test : (m k d : ℕ) → m + d ≡ k → nat_eq m k ≡ nat_eq d 0
same_test m k d e = grind (arith, nat_tests)

-- behind the last branch
pub branches_end : (n : NodeTree) (c : List ℕ) (ps : List Pattern) (es : List Expr) (i : ℕ) (b : Bool) (Whole : Type 0) → length es ≡ i → i ≤ length ps → b ≡ nat_eq (length es) (length ps)
    → FitFrom n c ps es i ↔ Whole → IsTrue b ↔ Whole
branches_end n c ps es i b Whole end le is so_far =
    let none : drop i es ≡ [] = none_left (drop i es) (omega (arith, length-drop i es)) in
    let count : nat_eq (length es) (length ps) ≡ nat_eq (length (drop i ps)) 0 = same_test (length es) (length ps) (length (drop i ps)) (omega (arith, length-drop i ps)) in
    let last = fit_none n c (drop i ps) b (is ∙ count) in (
      λ h. so_far.0 (subst (λ ds. BranchesFitInside n c (drop i ps) (trees_of (views ds))) (sym none) (last.0 h)),
      λ a. last.1 (subst (λ ds. BranchesFitInside n c (drop i ps) (trees_of (views ds))) none (so_far.1 a)),
    )
