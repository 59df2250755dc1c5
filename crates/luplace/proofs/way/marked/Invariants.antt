use Rattle.std.proofs.Common.{◌≡◌}
use Rattle.luplace.specs.Sent.{marked}
use Rattle.luplace.proofs.way.marked.Given as goal

abbrev pub invariant-loop-v : goal.invariant-loop-v
invariant-loop-v l = l.places.items ≡ marked l.marks l.from l.v
