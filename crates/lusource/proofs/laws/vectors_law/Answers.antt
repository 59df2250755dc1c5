use Rattle.std.proofs.Common.{refl}
use Rattle.lusource.proofs.laws.vectors_law.Goals as goal

pub returns : goal.returns
returns c = record {
  counters = record { a_counts = refl; b_counts = refl; a_ends = refl };
  expressions = record { numbers = refl; numbers_elsewhere = refl; truths = refl; variables = refl; minus = refl; negation = refl; difference = refl; previous = refl; arrow = refl; followed = refl; choice = refl; sample = refl; sample_elsewhere = refl; held = refl; held_later = refl; merged = refl };
  enumerations = record { constants = refl; compared = refl; previous = refl; sample = refl; merged = refl };
  calls = record { number_of_outer = refl; second_output = refl; left_is_first = refl; nodes = refl; arguments = refl; clocks = refl };
  paths = record { whole = refl; second_call = refl; inner = refl; around = refl; none = refl };
  given = record { columns = refl };
}
