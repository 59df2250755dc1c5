use Rattle.std.proofs.Common.{refl}
use Rattle.luplace.proofs.laws.placing_vectors_law.Goals as goal

pub returns : goal.returns
returns c =
    record {
      by_entry = refl;
      by_default = refl;
      nowhere = refl;
      placed = refl;
      accepted = refl;
      unknown = refl;
      unplaced = refl;
      together = refl;
      fewer = refl;
      apart = refl;
      alone = refl;
    }
