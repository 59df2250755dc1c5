use Rattle.std.proofs.Common.{Some, true, refl, sym, ap, ◌∙◌, [], ◌∷◌, true≢false}
use Rattle.std.specs.Prelude.{codes}
use Rattle.std.proofs.lemmas.List.Elements.{All-from_recursion}
use Rattle.lutree.specs.declared.expr.Pattern.TheVariants as patterns
use Rattle.lustat_rules.specs.Clocks.{on, base, HasClock}
use Rattle.lustat_rules.specs.Vectors.{sampler, to_main, int_variable}
use Rattle.lustat_rules.proofs.Fitting.{inside, outside}
use Rattle.lustat_rules.proofs.Worked.{zero_less, one_less, zero_less_two, some_is_none, base_is_on, sign_of, is_int}
use Rattle.lustat_rules.proofs.laws.clock_vectors_law.Goals as goal

pub returns : goal.returns
returns c =
    let slow = on (codes "c") (patterns.Truth true) in
    let z_is = All-from_recursion (λ x. HasClock sampler x (on (codes "c") (patterns.Truth true))) (codes "z" ∷ []) (refl, tt) in
    let y_is = All-from_recursion (λ x. HasClock sampler x base) (codes "y" ∷ []) (refl, tt) in
    record {
      constant_anywhere = (on (codes "c") (patterns.Truth true), z_is, outside sampler _ _ (refl, tt));
      sampled = (on (codes "c") (patterns.Truth true), z_is, outside sampler _ _ (refl, (refl, (base, refl, refl))));
      merged = (base, y_is, outside sampler _ _ (refl, (refl, ((refl, (base, refl, refl)), tt))));
      held = (base, y_is, outside sampler _ _ (record { variable = codes "c"; pattern = patterns.Truth true }, refl, refl));
      sum_of_two_clocks = λ f. base_is_on (f.1 0 [] zero_less ∙ ap Some (inside f.2).1.0);
      slow_for_fast = λ f. base_is_on (f.1 0 [] zero_less ∙ sym (inside f.2));
      wrong_sign = λ f. true≢false (ap sign_of (f.1 0 [] zero_less ∙ ap Some (inside f.2).0));
      merged_turned = λ f. true≢false (ap sign_of (inside f.2).1.1.0);
      held_on_base = λ f. base_is_on (inside f.2).1;
      two_clocks_left = λ f. base_is_on (f.1 0 [] zero_less_two ∙ sym (f.1 1 [] one_less));
      truth_is_a_clock = (tt, refl);
      int_is_none = λ f. true≢false (ap is_int f.1);
      clocked_main_called = λ f. some_is_none (f 0 to_main zero_less refl 1 (int_variable (codes "z") base) one_less);
    }
