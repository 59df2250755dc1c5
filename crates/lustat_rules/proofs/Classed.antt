-- Facts of worked classes.
use Rattle.std.proofs.Common.{◌≡◌, Bool, false, [], ◌∷◌, Option, Some, None, IsTrue, IsFalse, refl, sym, ap, subst, ◌∙◌, true≢false, arith}
use Rattle.std.specs.Prelude.{unwrap_or, codes}
use Rattle.std.proofs.lemmas.List.Elements.{All-from_recursion, All-contains}
use Rattle.lutree.specs.declared.expr.Pattern.TheVariants as patterns
use Rattle.lutree.specs.declared.expr.Condition.{Condition}
use Rattle.lutree.specs.declared.expr.Infix.TheVariants.{Arrow, FollowedBy}
use Rattle.lutree.specs.Tree.{Tree, EquationTree}
use Rattle.lutree.specs.Tree as tree
use Rattle.lustat_rules.specs.Scope.{Clock, declarations_of}
use Rattle.lustat_rules.specs.Clocks.{base}
use Rattle.lustat_rules.specs.Classes.{Classes, is_one, NeedsMet, IsRaised, IsHeld, HasClasses, StartsWith, IsTrueAtFirst, ClockIsTrueAtFirst}
use Rattle.lustat_rules.specs.Vectors.{defines, int_variable, delay}
use Rattle.lustat_rules.specs.ClassVectors.{holding, begins, begins_not}
use Rattle.lustat_rules.proofs.Worked.{zero_less, one_less, false_is_true, first_is}

-- every variable in class 0
abbrev pub zero : Classes
zero = λ x. false

-- a right side of class 0, whose needs are met, may be given out
pub given_out : (e : Tree) → IsFalse (is_one zero e) → NeedsMet zero e → HasClasses (delay e)
given_out e never needs = (
  zero,
  record {
    raised = All-from_recursion (IsRaised zero) (defines (codes "y") e ∷ []) ((λ t. absurd (true≢false (sym t ∙ never))), tt);
    needs = All-from_recursion (λ (q : EquationTree). NeedsMet zero q.right) (defines (codes "y") e ∷ []) (needs, tt);
    held = All-from_recursion (IsHeld zero (delay e)) (declarations_of (delay e)) (record { input = λ i. refl; output = λ o. refl; clock = tt }, (record { input = λ i. refl; output = λ o. refl; clock = tt }, tt));
    sampled = λ k q l j x m. refl;
  },
)

-- one that is of class 1 in each assignment may not
pub not_given_out : (e : Tree) → ((a : Classes) → IsTrue (is_one a e)) → ¬ HasClasses (delay e)
not_given_out e late h =
    let q = defines (codes "y") e in
    true≢false (sym (h.1.raised 0 q zero_less (late h.0) 0 [] zero_less) ∙ (h.1.held 1 (int_variable (codes "y") base) one_less).output (0, zero_less, refl))

-- the constant that an expression begins with
abbrev pub begun : Tree → Option Bool
begun (tree.binary Arrow (tree.truth b) e) = Some b
begun (tree.binary FollowedBy (tree.truth b) e) = Some b
begun e = None

begun_so : {sign : Bool} {e : Tree} → StartsWith (patterns.Truth sign) e → begun e ≡ Some sign
begun_so (StartsWith.arrow e) = refl
begun_so (StartsWith.followed e) = refl

abbrev on_c : Bool → Condition
on_c sign = record { variable = codes "c"; pattern = patterns.Truth sign }

-- `current v` is accepted where c begins with the sign of v's clock
pub begins_so : (sign : Bool) (right : Tree) → StartsWith (patterns.Truth sign) right → begins sign right
begins_so sign right starts =
    All-from_recursion (ClockIsTrueAtFirst (holding sign right)) (codes "v" ∷ []) (
      (λ k e.
          subst (IsTrueAtFirst (holding sign right)) (ap (λ (o : Option Clock). unwrap_or (unwrap_or o None) (on_c sign)) e)
          (defines (codes "c") right, (0, omega arith, refl), refl, starts)),
      tt,
    )

-- and nowhere else
pub begins_otherwise : (sign : Bool) (right : Tree) → (begun right ≡ Some sign → ⊥) → begins_not sign right
begins_otherwise sign right other f =
    let t = f 0 [] zero_less (on_c sign) refl in
    All-contains (λ (q : EquationTree). q.left ≡ codes "c" ∷ [] → ¬ StartsWith (patterns.Truth sign) q.right) (holding sign right).equations t.0
    (All-from_recursion (λ (q : EquationTree). q.left ≡ codes "c" ∷ [] → ¬ StartsWith (patterns.Truth sign) q.right) (holding sign right).equations
    ((λ e s. other (begun_so s)), ((λ e s. false_is_true (ap (λ l. first_is l (codes "c")) e)), ((λ e s. false_is_true (ap (λ l. first_is l (codes "c")) e)), tt))))
    t.1 t.2 t.3
