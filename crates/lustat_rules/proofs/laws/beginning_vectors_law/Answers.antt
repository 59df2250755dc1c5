use Rattle.std.proofs.Common.{Bool, true, false, Option, refl, ap, true≢false}
use Rattle.std.specs.Prelude.{unwrap_or}
use Rattle.lustat_rules.specs.Classes.{StartsWith}
use Rattle.lustat_rules.specs.ClassVectors.{d}
use Rattle.lustat_rules.proofs.Classed.{given_out, not_given_out, begins_so, begins_otherwise}
use Rattle.lustat_rules.proofs.Worked.{none_is_some, false_is_true}
use Rattle.lustat_rules.proofs.laws.beginning_vectors_law.Goals as goal

pub returns : goal.returns
returns c = record {
  outputs = record {
    call = given_out _ refl (refl, tt, tt);
    merged = given_out _ refl (refl, tt, (refl, tt, tt));
    held = given_out _ refl refl;
    delay_of_call = given_out _ refl (tt, (refl, (refl, tt, tt)));
    delay_of_merged = given_out _ refl (tt, refl, (refl, tt, (refl, tt, tt)));
    choice = given_out _ refl (tt, (tt, (refl, tt)), tt);
    choice_after = given_out _ refl (tt, (tt, (refl, tt), tt));
    sum_of_late = not_given_out _ (λ a. refl);
    late_in_sum = not_given_out _ (λ a. refl);
    minus_late = not_given_out _ (λ a. refl);
    late_condition = not_given_out _ (λ a. refl);
    late_choice = not_given_out _ (λ a. refl);
    late_other_choice = not_given_out _ (λ a. refl);
    late_sample = not_given_out _ (λ a. refl);
    late_arrow = not_given_out _ (λ a. refl);
  };
  beginnings = record {
    true_arrow = begins_so true _ (StartsWith.arrow d);
    true_fby = begins_so true _ (StartsWith.followed d);
    false_arrow = begins_otherwise true _ (λ e. false_is_true (ap (λ (o : Option Bool). unwrap_or o false) e));
    false_fby = begins_otherwise true _ (λ e. false_is_true (ap (λ (o : Option Bool). unwrap_or o false) e));
    false_arrow_turned = begins_so false _ (StartsWith.arrow d);
    false_fby_turned = begins_so false _ (StartsWith.followed d);
    true_arrow_turned = begins_otherwise false _ (λ e. true≢false (ap (λ (o : Option Bool). unwrap_or o true) e));
    true_fby_turned = begins_otherwise false _ (λ e. true≢false (ap (λ (o : Option Bool). unwrap_or o true) e));
    true_at_last = begins_otherwise true _ none_is_some;
    true_behind_fby = begins_otherwise true _ none_is_some;
    negation = begins_otherwise true _ none_is_some;
    constant = begins_otherwise true _ none_is_some;
    variable = begins_otherwise true _ none_is_some;
  };
}
