-- The canonical text of a worked program.
use Rattle.std.proofs.Common.{refl}
use Rattle.std.specs.Fmt.{digits}
use Rattle.lusyn_printer.specs.Laws.{CanonicalVector}

pub canonical_vector : CanonicalVector
unfolding digits
canonical_vector = refl
