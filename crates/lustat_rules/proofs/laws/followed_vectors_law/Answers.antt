use Rattle.std.proofs.Common.{true, false, refl, sym, ◌∙◌, [], ◌∷◌, true≢false}
use Rattle.std.specs.Prelude.{codes}
use Rattle.std.proofs.lemmas.List.Elements.{All-from_recursion}
use Rattle.lutree.specs.declared.expr.Pattern.TheVariants as patterns
use Rattle.lutree.specs.Tree.{EquationTree}
use Rattle.lutree.specs.Tree as tree
use Rattle.lustat_rules.specs.Clocks.{on, base, HasClock}
use Rattle.lustat_rules.specs.Classes.{IsRaised, NeedsMet, IsHeld, SamplersAreZero}
use Rattle.lustat_rules.specs.Vectors.{sampler, delay, defines, int_variable, x}
use Rattle.lustat_rules.specs.Chains.{follows}
use Rattle.lustat_rules.proofs.Fitting.{inside, outside}
use Rattle.lustat_rules.proofs.Worked.{zero_less, one_less, none_below, false_is_true, base_is_on}
use Rattle.lustat_rules.proofs.laws.followed_vectors_law.Goals as goal

pub returns : goal.returns
returns c =
    let z_is = All-from_recursion (λ x. HasClock sampler x (on (codes "c") (patterns.Truth true))) (codes "z" ∷ []) (refl, tt) in
    let y_is = All-from_recursion (λ x. HasClock sampler x base) (codes "y" ∷ []) (refl, tt) in
    record {
      one_clock = (base, y_is, outside sampler _ _ (tt, refl));
      slow_one_clock = (on (codes "c") (patterns.Truth true), z_is, outside sampler _ _ (tt, refl));
      two_clocks = λ f. base_is_on (f.1 0 [] zero_less ∙ sym (inside f.2).1);
      starts = (
        λ x. false,
        record {
          raised = All-from_recursion (IsRaised (λ x. false)) (defines (codes "y") (follows (tree.number 0) x) ∷ []) ((λ t. absurd (false_is_true t)), tt);
          needs = All-from_recursion (λ (q : EquationTree). NeedsMet (λ x. false) q.right) (defines (codes "y") (follows (tree.number 0) x) ∷ []) ((tt, refl, tt), tt);
          held = All-from_recursion (IsHeld (λ x. false) (delay (follows (tree.number 0) x))) (int_variable (codes "x") base ∷ int_variable (codes "y") base ∷ []) (record { input = λ i. refl; output = λ o. refl; clock = tt }, (record { input = λ i. refl; output = λ o. refl; clock = tt }, tt));
          sampled = All-from_recursion (SamplersAreZero (λ x. false)) (defines (codes "y") (follows (tree.number 0) x) ∷ []) ((λ k x l. absurd (none_below l)), tt);
        },
      );
      nil_after = λ h. true≢false (h.1.needs 0 (defines (codes "y") x) zero_less).1;
      nil_at_first = λ h.
          true≢false (sym (h.1.raised 0 (defines (codes "y") x) zero_less refl 0 [] zero_less) ∙ (h.1.held 1 (int_variable (codes "y") base) one_less).output (0, zero_less, refl));
    }
