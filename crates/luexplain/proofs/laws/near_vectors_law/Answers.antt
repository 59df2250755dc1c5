use Rattle.std.proofs.Common.{refl}
use Rattle.luexplain.proofs.laws.near_vectors_law.Goals as goal

pub returns : goal.returns
returns c = record {
  inserted = refl;
  deleted = refl;
  replaced = refl;
  swapped = refl;
  apart_by_both = refl;
  far = refl;
  of_one = refl;
  of_two = refl;
}
