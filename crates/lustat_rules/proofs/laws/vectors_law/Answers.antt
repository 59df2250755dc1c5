use Rattle.std.proofs.Common.{refl}
use Rattle.lustat_rules.proofs.laws.vectors_law.Goals as goal

pub returns : goal.returns
returns c = record {
  names = record { names = refl; calls = refl; inner = refl; values_of_two = refl; values_of_lost = refl; values_of_sum = refl; kind_of_c = refl; kind_of_w = refl; clock_of_z = refl; clock_of_x = refl };
  types = record { sum = refl; sum_of_truth = refl; order = refl; order_of_truths = refl; equality_of_truths = refl; equality_of_both = refl; conjunction = refl; conjunction_of_int = refl; minus = refl; negation_of_int = refl; previous = refl; arrow = refl; arrow_of_both = refl; choice = refl; choice_by_int = refl; choice_of_both = refl; sample = refl; held = refl; merged = refl; merged_of_both = refl; call = refl; call_of_truth = refl; call_of_two = refl; two_values = refl; call_without_arguments = refl };
  numbers = record { names = refl; clocks = refl; initialisation = refl };
}
