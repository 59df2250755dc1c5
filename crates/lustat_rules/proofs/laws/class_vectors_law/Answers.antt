use Rattle.std.proofs.Common.{[], ◌∷◌, IsTrue, IsFalse, refl, true≢false}
use Rattle.std.specs.Prelude.{codes}
use Rattle.std.proofs.lemmas.List.Elements.{All-from_recursion}
use Rattle.lustat_rules.specs.ClassVectors.{only_p}
use Rattle.lustat_rules.proofs.Worked.{zero_less, one_less, false_is_true}
use Rattle.lustat_rules.proofs.laws.class_vectors_law.Goals as goal

pub returns : goal.returns
returns c = record {
  classes = record { leaves = refl; prefixes = refl; sums = refl; others = refl; delays = refl; arrows = refl; followed = refl; choices = refl; samples = refl; held = refl; merged = refl; called = refl; nested = refl };
  met = record {
    variable = tt;
    sum = (tt, tt);
    minus = tt;
    both_sides = (tt, tt);
    left_of_fby = (tt, refl, tt);
    choice = (tt, tt, tt);
    sample = tt;
    delay = (refl, tt);
    held = refl;
    merged = (refl, tt, (refl, tt, tt));
    called = (refl, tt, (refl, tt, tt));
    no_argument = tt;
    delay_of_arrow = (refl, (tt, tt));
    delay_of_held = (refl, refl);
    delay_of_call = (refl, (refl, tt, (refl, tt, tt)));
    delay_of_merged = (refl, (refl, tt, (refl, tt, tt)));
    argument_of_merged = (refl, (refl, tt, (refl, tt, tt)), tt);
  };
  missed = record {
    delay = λ h. true≢false h.0;
    delay_of_sum = λ h. true≢false h.0;
    right_of_fby = λ h. true≢false h.1;
    held = λ h. true≢false h;
    merged = λ h. true≢false h.0;
    merged_other = λ h. true≢false h.2.0;
    argument = λ h. true≢false h.0;
    second_argument = λ h. true≢false h.2.0;
    in_minus = λ h. true≢false h.0;
    in_delay = λ h. true≢false h.1.1.0;
    in_left = λ h. true≢false h.0.0;
    in_right = λ h. true≢false h.1.0;
    in_arrow = λ h. true≢false h.0.0;
    after_arrow = λ h. true≢false h.1.0;
    in_fby = λ h. true≢false h.0.0;
    after_fby = λ h. true≢false h.2.1.0;
    in_condition = λ h. true≢false h.0.0;
    in_first = λ h. true≢false h.1.0;
    in_second = λ h. true≢false h.2.0;
    in_sample = λ h. true≢false h.0;
    in_branch = λ h. true≢false h.1.1.0;
    in_other_branch = λ h. true≢false h.2.1.1.0;
    in_argument = λ h. true≢false h.1.1.0;
    in_second_argument = λ h. true≢false h.2.1.1.0;
  };
  named = record { clocks = refl; clocks_on_clocks = refl; held = refl; held_inside = refl };
  variables = record {
    below = λ h. false_is_true (h refl 0 [] zero_less);
    raised = λ t. All-from_recursion (λ y. IsTrue (only_p y)) (codes "p" ∷ []) (refl, tt);
    above = λ t. absurd (false_is_true t);
    one_below = λ h. false_is_true (h refl 1 [] one_less);
    merged_by_late = λ h. true≢false (h 0 [] zero_less);
    merged = All-from_recursion (λ y. IsFalse (only_p y)) (codes "c" ∷ []) (refl, tt);
    sampled_by_late = λ h. true≢false (h 0 [] zero_less);
    sampled = All-from_recursion (λ y. IsFalse (only_p y)) (codes "c" ∷ []) (refl, tt);
  };
}
