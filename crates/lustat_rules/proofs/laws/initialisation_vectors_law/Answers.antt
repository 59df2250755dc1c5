use Rattle.std.proofs.Common.{◌≡◌, None, true, false, refl, sym, ap, subst, ◌∙◌, [], ◌∷◌, true≢false, arith, Option}
use Rattle.std.specs.Prelude.{codes, unwrap_or}
use Rattle.std.proofs.lemmas.List.Elements.{All-from_recursion, All-contains}
use Rattle.lutree.specs.Tree.{DeclarationTree, EquationTree}
use Rattle.lutree.specs.Tree as tree
use Rattle.lutree.specs.declared.expr.Pattern.TheVariants as patterns
use Rattle.lutree.specs.declared.expr.Condition.{Condition}
use Rattle.lutree.specs.declared.expr.Prefix.TheVariants.{Pre}
use Rattle.lutree.specs.declared.expr.Infix.TheVariants.{Arrow}
use Rattle.lustat_rules.specs.Scope.{Clock}
use Rattle.lustat_rules.specs.Clocks.{base}
use Rattle.lustat_rules.specs.Classes.{Classes, IsRaised, NeedsMet, IsHeld, SamplersAreZero, ClockIsTrueAtFirst, IsTrueAtFirst, StartsWith}
use Rattle.lustat_rules.specs.Vectors.{sampler, holder, delay, defines, int_variable, x}
use Rattle.lustat_rules.proofs.Worked.{zero_less, one_less, none_below, false_is_true, first_is}
use Rattle.lustat_rules.proofs.laws.initialisation_vectors_law.Goals as goal

-- what defines y
abbrev equation : tree.Tree → EquationTree
equation e = defines (codes "y") e

abbrev condition : Condition
condition = record { variable = codes "c"; pattern = patterns.Truth true }

pub returns : goal.returns
returns c =
    let a : Classes = λ x. false in
    let started = tree.binary Arrow (tree.number 0) (tree.unary Pre x) in
    record {
      arrow_before_pre = (
        λ x. false,
        record {
          raised = All-from_recursion (IsRaised (λ x. false)) (equation (tree.binary Arrow (tree.number 0) (tree.unary Pre x)) ∷ []) ((λ t. absurd (false_is_true t)), tt);
          needs = All-from_recursion (λ (q : EquationTree). NeedsMet (λ x. false) q.right) (equation (tree.binary Arrow (tree.number 0) (tree.unary Pre x)) ∷ []) ((tt, (refl, tt)), tt);
          held = All-from_recursion (IsHeld (λ x. false) (delay (tree.binary Arrow (tree.number 0) (tree.unary Pre x)))) (int_variable (codes "x") base ∷ int_variable (codes "y") base ∷ []) (record { input = λ i. refl; output = λ o. refl; clock = tt }, (record { input = λ i. refl; output = λ o. refl; clock = tt }, tt));
          sampled = All-from_recursion (SamplersAreZero (λ x. false)) (equation (tree.binary Arrow (tree.number 0) (tree.unary Pre x)) ∷ []) ((λ k x l. absurd (none_below l)), tt);
        },
      );
      bare_pre = λ h.
          true≢false (sym (h.1.raised 0 (equation x) zero_less refl 0 [] zero_less) ∙ (h.1.held 1 (int_variable (codes "y") base) one_less).output (0, zero_less, refl));
      pre_of_pre = λ h. true≢false (h.1.needs 0 (equation x) zero_less).1.0;
      pre_as_argument = λ h. true≢false (h.1.needs 0 (equation x) zero_less).0;
      current_of_started =
          All-from_recursion (ClockIsTrueAtFirst holder) (codes "v" ∷ []) (
            (λ k e.
                subst (IsTrueAtFirst holder) (ap (λ (o : Option Clock). unwrap_or (unwrap_or o None) condition) e)
                (defines (codes "c") (tree.binary Arrow (tree.truth true) (tree.variable (codes "d"))), (0, omega arith, refl), refl, StartsWith.arrow (tree.variable (codes "d")))),
            tt,
          );
      current_on_an_input = λ f.
          let t = f 0 [] zero_less condition refl in
          All-contains (λ (q : EquationTree). ¬ (q.left ≡ codes "c" ∷ [])) sampler.equations t.0
          (All-from_recursion (λ (q : EquationTree). ¬ (q.left ≡ codes "c" ∷ [])) sampler.equations
          ((λ e. false_is_true (ap (λ l. first_is l (codes "c")) e)), ((λ e. false_is_true (ap (λ l. first_is l (codes "c")) e)), ((λ e. false_is_true (ap (λ l. first_is l (codes "c")) e)), tt))))
          t.1 t.2;
    }
