use Rattle.std.proofs.Common.{refl}
use Rattle.luflow.specs.Solution.{solution}
use Rattle.luflow.proofs.Vectors.{idle_worked}
use Rattle.luflow.proofs.laws.form_vectors_law.Goals as goal

pub returns : goal.returns
unfolding solution
returns c = record {
  clocks = record { base_ends = refl; of_true = refl; of_false = refl; of_lost = refl; of_lost_turned = refl; of_absent = refl; of_name = refl; of_last_name = refl; of_slow_name = refl; base_before = refl; true_before = refl; lost_before = refl; name_before = refl; idle_before = refl };
  past = record { previous = refl; previous_broken = refl; previous_slow = refl; previous_cut = refl; previous_spent = refl; previous_lost = refl; held = refl; held_cut = refl; held_other = refl; held_spent = refl; before_cut = refl };
  arrows = record { arrow = refl; arrow_turned = refl; slow = refl; first_of_slow = refl; right_broken = refl; left_broken = refl; after_lost = refl; after_idle = refl; nil_right = refl; nil_left = refl };
  choices = record { choice = refl; choice_turned = refl; not_taken_broken = refl; other_not_taken_broken = refl; condition_broken = refl; merged = refl; merged_whole = refl; merged_turned = refl; merged_cut = refl; not_taken_is_no_matter = refl; clock_broken = refl; merged_names = refl; merged_otherwise = refl; beyond_branches = refl };
  others = record { sample = refl; sample_of_breaking = refl; sample_elsewhere = refl; sample_by_lost = refl; sample_by_name = refl; constant = refl; constant_by_lost = refl; copy = refl; difference = refl; difference_by_spent = refl; difference_of_late = refl; minus_of_breaking = refl };
  messages_are = record { of_whole = refl; of_slow = refl; of_other = refl; of_fewer_instants = refl; of_late = refl; of_mode = refl; of_pause = refl; of_breaking = refl; of_cut = refl; of_spent = refl; before_the_break = refl; of_absent = refl; of_no_instants = refl; of_spent_and_no_instants = refl; presents_of_slow = refl; presents_of_cut = refl };
  solutions = record { worked_none = idle_worked; y = refl; p = refl; z = refl; carried_of_y = refl; carried_of_z = refl; none_there = refl };
}
