-- The type of the branches of a merge.
use Rattle.std.proofs.Common.{◌≡◌, ◌∙◌, ◌<◌, ◌+◌, ℕ, suc, false, nat_eq, if◌then◌else◌, List, [], ◌∷◌, ◌++◌, length, take, get_or, Option, refl, sym, ap, subst, arith}
use Rattle.std.proofs.lemmas.List.{take_more, length-take}
use Rattle.std.proofs.lemmas.Bool.Decides.{nat_tests}
use Rattle.lutree.specs.declared.program.Kind.{Kind}
use Rattle.lutree.specs.declared.expr.Expr.{Expr}
use Rattle.lutree.specs.Tree.{NodeTree, ProgramTree, view, views, trees_of}
use Rattle.lustat_rules.specs.Typing.{type_of, types_of, agreed, agreed_all}
use Rattle.lustat_rules.proofs.Agreeing.{agreed_more}

-- the types of branches, and one more behind them
types_push : (p : ProgramTree) (n : NodeTree) (es : List Expr) (e : Expr) → types_of p n (trees_of (views (es ++ e ∷ []))) ≡ types_of p n (trees_of (views es)) ++ type_of p n (view e) ∷ []
types_push p n [] e = refl
types_push p n (a ∷ es) e = ap (λ ks. type_of p n (view a) ∷ ks) (types_push p n es e)

length_types : (p : ProgramTree) (n : NodeTree) (es : List Expr) → length (types_of p n (trees_of (views es))) ≡ length es
length_types p n [] = refl
length_types p n (e ∷ es) = ap suc (length_types p n es)

agreed_push : (ks : List (Option Kind)) (j : Option Kind) (i : ℕ) → length ks ≡ i → agreed_all (ks ++ j ∷ []) ≡ (if nat_eq i 0 then j else agreed (agreed_all ks) j)
agreed_push [] j i e = subst (λ m. j ≡ (if nat_eq m 0 then j else agreed (agreed_all []) j)) e refl
agreed_push (k ∷ ks) j i e =
    let other : nat_eq i 0 ≡ false = grind (arith, nat_tests) in
    agreed_more k ks j ∙ sym (ap (λ b. if b then j else agreed (agreed_all (k ∷ ks)) j) other)

pub branch_more : (p : ProgramTree) (n : NodeTree) (es : List Expr) (i : ℕ) (e : Expr) (all kind more : Option Kind) → i < length es → e ≡ get_or es i e
    → all ≡ agreed_all (types_of p n (trees_of (views (take i es)))) → kind ≡ type_of p n (view e) → more ≡ (if nat_eq i 0 then kind else agreed all kind)
    → more ≡ agreed_all (types_of p n (trees_of (views (take (i + 1) es))))
branch_more p n es i e all kind more lt at before own is =
    let ks = types_of p n (trees_of (views (take i es))) in
    let count : length ks ≡ i = length_types p n (take i es) ∙ (omega (arith, length-take i es)) in
    is ∙ ap (λ k. if nat_eq i 0 then k else agreed all k) own ∙ ap (λ a. if nat_eq i 0 then type_of p n (view e) else agreed a (type_of p n (view e))) before
    ∙ sym (agreed_push ks (type_of p n (view e)) i count)
    ∙ sym taken
  where
    taken : agreed_all (types_of p n (trees_of (views (take (i + 1) es)))) ≡ agreed_all (types_of p n (trees_of (views (take i es))) ++ type_of p n (view e) ∷ [])
    taken =
        ap (λ xs. agreed_all (types_of p n (trees_of (views xs)))) (take_more es i e lt ∙ ap (λ (x : Expr). take i es ++ x ∷ []) (sym at))
        ∙ ap agreed_all (types_push p n (take i es) e)
