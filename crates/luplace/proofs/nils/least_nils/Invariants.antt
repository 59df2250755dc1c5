use Rattle.luplace.specs.Nils.{AreNilsTo}
use Rattle.luplace.proofs.nils.least_nils.Given as goal

abbrev pub invariant-loop-p : goal.invariant-loop-p
invariant-loop-p l = AreNilsTo l.flat l.p l.nils.items
