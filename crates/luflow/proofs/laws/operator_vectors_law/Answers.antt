use Rattle.std.proofs.Common.{refl}
use Rattle.luflow.proofs.laws.operator_vectors_law.Goals as goal

pub returns : goal.returns
returns c = record {
  sums = record { sum = refl; to_greatest = refl; past_greatest = refl; to_least = refl; past_least = refl; of_both_ends = refl; difference = refl; difference_turned = refl; down_to_least = refl; below_least = refl; up_to_greatest = refl; above_greatest = refl; greatest_and_one = refl; minus = refl; minus_of_minus = refl; minus_zero = refl; minus_greatest = refl; minus_above_least = refl; minus_least = refl };
  products = record { product = refl; product_of_minuses = refl; nothing_of_least = refl; past_greatest = refl; to_least = refl; past_least = refl; last_square = refl; next_square = refl; least_turned = refl; turned_least = refl; greatest_turned = refl };
  quotients = record { quotient = refl; quotient_of_minus = refl; quotient_by_minus = refl; quotient_of_minuses = refl; small = refl; of_zero = refl; exact = refl; half_of_least = refl; least_by_one = refl; least_by_least = refl; least_by_minus = refl; greatest_by_minus = refl; greatest_by_least = refl; by_zero = refl; minus_by_zero = refl; zero_by_zero = refl; least_by_zero = refl };
  rests = record { rest = refl; rest_of_minus = refl; rest_by_minus = refl; rest_of_minuses = refl; small = refl; none = refl; least_by_minus = refl; least_by_greatest = refl; greatest_by_least = refl; by_zero = refl; zero_by_zero = refl; least_by_zero = refl };
  comparisons_are = record { less = refl; equal = refl; greater = refl; minus_less = refl; minus_equal = refl; minus_greater = refl; minus_before_plus = refl; plus_after_minus = refl; zero = refl; below_zero = refl; ends = refl; ends_turned = refl };
  truths_are = record { conjunction = refl; disjunction = refl; exclusive = refl; implication = refl; equality = refl; inequality = refl; not_true = refl; not_false = refl };
  nils = record { on_the_left = refl; on_the_right = refl; before_true = refl; after_true = refl; before_false = refl; after_false = refl; before_name = refl; after_name = refl; on_both = refl; minus = refl; negation = refl; where_true = refl; where_false = refl; nil_condition = refl; nil_taken = refl; nil_not_taken = refl; nil_taken_if_false = refl; nil_not_taken_if_false = refl };
  names_are = record { same = refl; other = refl; other_turned = refl; unequal = refl; not_unequal = refl; others = refl; singles = refl; beside_number = refl; behind_number = refl; beside_truth = refl; behind_truth = refl; where_true = refl; where_false = refl; by_name = refl };
  types = record { takes_are = refl; makes_are = refl; single_are = refl };
}
