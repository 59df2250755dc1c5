use Rattle.std.proofs.Common.{refl}
use Rattle.std.specs.Fmt.{digits}
use Rattle.luexplain.specs.Place.{source_line, caret_line, numbers}
use Rattle.luexplain.proofs.laws.place_vectors_law.Goals as goal

pub returns : goal.returns
unfolding digits source_line caret_line numbers
returns c = record {
  behind_tab = refl;
  at_feed = refl;
  at_end = refl;
  of_nothing = refl;
  hidden = refl;
  cut_right = refl;
  cut_both = refl;
  cut_left = refl;
}
