use Rattle.std.proofs.Common.{refl}
use Rattle.lusource.proofs.laws.stream_vectors_law.Goals as goal

pub returns : goal.returns
returns c = record {
  past = record { previous = refl; previous_broken = refl; previous_slow = refl; previous_cut = refl; previous_spent = refl; previous_lost = refl; held = refl; held_cut = refl; held_other = refl; held_spent = refl };
  arrows = record { left_first = refl; right_after = refl; on_slow = refl; first_of_slow = refl; right_broken = refl; left_broken = refl; after_lost = refl; after_idle = refl; nil_right = refl; nil_left = refl; followed = refl; followed_cut = refl; followed_left = refl; followed_lost = refl };
  choices = record { choice = refl; choice_turned = refl; not_taken_broken = refl; other_not_taken_broken = refl; condition_broken = refl; merged = refl; merged_whole = refl; merged_turned = refl; merged_cut = refl; not_taken_is_no_matter = refl; clock_broken = refl; constants = refl; delays = refl; starts = refl };
  others = record { sample = refl; sample_of_breaking = refl; sample_elsewhere = refl; sample_by_lost = refl; constant_by_lost = refl; difference = refl; difference_by_spent = refl; difference_of_late = refl; minus_of_spent = refl };
}
