use Rattle.std.proofs.Common.{refl}
use Rattle.luworld.proofs.laws.vectors_law.Goals as goal

pub returns : goal.returns
returns c = record { items = refl; first_script = refl; second_script = refl; left_new = refl; left_later = refl; moved_later = refl; enabled_new = refl; left_no_instants = refl; tenth = refl; lists = refl; blocked_at_ten = refl; faulty_items = refl; faulty_end = refl; faulty_enabled = refl; faulty_left = refl; faulty_new = refl; shared_items = refl }
