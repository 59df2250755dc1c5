-- The end of a walk over arguments and inputs.
use Rattle.lutree.specs.declared.program.Kind.{Kind}
use Rattle.std.proofs.Common.{◌≡◌, Option, map, ℕ, ◌≤◌, ◌-◌, eqb, nat_eq, List, [], ◌∷◌, length, drop, refl, sym, ap, ◌∙◌, arith, length-drop}
use Rattle.std.proofs.Math.Dec.{eqb-suc-zero}
use Rattle.std.proofs.lemmas.Bool.Decides.{nat_tests}
use Rattle.lutree.specs.declared.program.Declaration.{Declaration}
use Rattle.lutree.specs.declared.expr.Expr.{Expr}
use Rattle.lutree.specs.Tree.{NodeTree, ProgramTree, views, trees_of, declarations_view}
use Rattle.lustat_rules.specs.Typing.{types_of, arguments_fit}

fit_nil : (xs : List Declaration) → arguments_fit [] (declarations_view xs) ≡ eqb (length xs) 0
fit_nil [] = refl
fit_nil (d ∷ xs) = sym (eqb-suc-zero (length xs))

no_more : (es : List Expr) → length es ≡ 0 → es ≡ []
no_more [] e = refl
no_more (a ∷ es) e = absurd (omega arith)

ends : (n m i k : ℕ) → n ≡ i → i ≤ m → k ≡ m - i → eqb n m ≡ eqb k 0
ends n m i k e le f = grind (arith, nat_tests)

pub fit_end : (p : ProgramTree) (n : NodeTree) (es : List Expr) (ds : List Declaration) (i : ℕ) → length es ≡ i → i ≤ length ds → nat_eq (length es) (length ds) ≡ arguments_fit (types_of p n (trees_of (views (drop i es)))) (declarations_view (drop i ds))
fit_end p n es ds i e le =
    let none : drop i es ≡ [] = no_more (drop i es) (omega (arith, length-drop i es)) in
    ends (length es) (length ds) i (length (drop i ds)) e le (omega (arith, length-drop i ds))
    ∙ sym (fit_nil (drop i ds)) ∙ ap (λ xs. arguments_fit (types_of p n (trees_of (views xs))) (declarations_view (drop i ds))) (sym none)

no_names : (es : List (List ℕ)) → length es ≡ 0 → es ≡ []
no_names [] e = refl
no_names (a ∷ es) e = absurd (omega arith)

pub left_end : (kind : List ℕ → Option Kind) (es : List (List ℕ)) (ds : List Declaration) (i : ℕ) → length es ≡ i → i ≤ length ds → nat_eq (length es) (length ds) ≡ arguments_fit (map kind (drop i es)) (declarations_view (drop i ds))
left_end kind es ds i e le =
    let none : drop i es ≡ [] = no_names (drop i es) (omega (arith, length-drop i es)) in
    ends (length es) (length ds) i (length (drop i ds)) e le (omega (arith, length-drop i ds))
    ∙ sym (fit_nil (drop i ds)) ∙ ap (λ xs. arguments_fit (map kind xs) (declarations_view (drop i ds))) (sym none)
