-- The end of a walk over arguments and inputs.
use Rattle.std.proofs.Common.{◌≡◌, ℕ, suc, ◌<◌, ◌≤◌, ◌-◌, ◌&&◌, false, get_or, drop-cons, Option, Some, None, map, eqb, nat_eq, List, [], ◌∷◌, length, drop, true, if◌then◌else◌, refl, sym, ap, ◌∙◌, arith, length-drop}
use Rattle.std.proofs.Math.Dec.{eqb-suc-zero}
use Rattle.std.proofs.lemmas.Bool.Decides.{nat_tests}
use Rattle.lutree.specs.declared.program.Declaration.{Declaration}
use Rattle.lutree.specs.declared.program.Kind.{Kind}
use Rattle.lutree.specs.Tree.{DeclarationTree, NodeTree, declarations_view}
use Rattle.lustat_rules.specs.Typing.{arguments_fit, call_kinds, has_kind}
use Rattle.lucore_build.specs.declared.operand.Operand.{Operand}
use Rattle.lucore_build.specs.Walks.{kinds_of}

fit_nil : (xs : List Declaration) → arguments_fit [] (declarations_view xs) ≡ eqb (length xs) 0
fit_nil [] = refl
fit_nil (d ∷ xs) = sym (eqb-suc-zero (length xs))

no_more : (es : List Operand) → length es ≡ 0 → es ≡ []
no_more [] e = refl
no_more (a ∷ es) e = absurd (omega arith)

ends : (n m i k : ℕ) → n ≡ i → i ≤ m → k ≡ m - i → eqb n m ≡ eqb k 0
ends n m i k e le f = grind (arith, nat_tests)

pub fit_end : (es : List Operand) (ds : List Declaration) (i : ℕ) → length es ≡ i → i ≤ length ds → nat_eq (length es) (length ds) ≡ arguments_fit (kinds_of (drop i es)) (declarations_view (drop i ds))
fit_end es ds i e le =
    let none : drop i es ≡ [] = no_more (drop i es) (omega (arith, length-drop i es)) in
    ends (length es) (length ds) i (length (drop i ds)) e le (omega (arith, length-drop i ds))
    ∙ sym (fit_nil (drop i ds)) ∙ ap (λ xs. arguments_fit (kinds_of xs) (declarations_view (drop i ds))) (sym none)

-- the types of a call whose arguments fit
pub call_kinds_fit : (o : Option NodeTree) (n : NodeTree) (ks : List (Option Kind)) → o ≡ Some n → arguments_fit ks n.inputs ≡ true →
    call_kinds o ks ≡ Some (map (λ (d : DeclarationTree). d.kind) n.outputs)
call_kinds_fit o n ks e h = ap (λ o. call_kinds o ks) e ∙ ap (λ b. if b then Some (map (λ (d : DeclarationTree). d.kind) n.outputs) else None) h

-- AN ARGUMENT THAT DOESN'T FIT

pub too_many : (es : List Operand) (ds : List Declaration) (i : ℕ) → i < length es → length ds ≤ i → arguments_fit (kinds_of (drop i es)) (declarations_view (drop i ds)) ≡ false
too_many es ds i lt le =
    let none : drop i ds ≡ [] = empty (drop i ds) (omega (arith, length-drop i ds)) in
    ap (λ xs. arguments_fit (kinds_of (drop i es)) (declarations_view xs)) none ∙ some (drop i es) (omega (arith, length-drop i es))
  where
    empty : (xs : List Declaration) → length xs ≡ 0 → xs ≡ []
    empty [] e = refl
    empty (d ∷ xs) e = absurd (omega arith)

    some : (xs : List Operand) → 0 < length xs → arguments_fit (kinds_of xs) [] ≡ false
    some [] h = absurd (omega arith)
    some (x ∷ xs) h = refl

pub unfit : (es : List Operand) (ds : List Declaration) (i : ℕ) (a : Operand) (d : Declaration) → i < length es → i < length ds → has_kind (get_or es i a).kind (get_or ds i d).kind ≡ false →
    arguments_fit (kinds_of (drop i es)) (declarations_view (drop i ds)) ≡ false
unfit es ds i a d lt le differs =
    ap (λ xs. arguments_fit (kinds_of xs) (declarations_view (drop i ds))) (drop-cons es i a lt)
    ∙ ap (λ xs. arguments_fit (kinds_of (get_or es i a ∷ drop (suc i) es)) (declarations_view xs)) (drop-cons ds i d le)
    ∙ ap (λ b. b && arguments_fit (kinds_of (drop (suc i) es)) (declarations_view (drop (suc i) ds))) differs
