use Rattle.std.proofs.Common.{◌≡◌, take}
use Rattle.luplace.specs.Layers.{away}
use Rattle.luplace.proofs.layers.away.Given as goal

abbrev pub invariant-loop-r : goal.invariant-loop-r
invariant-loop-r l = l.those.items ≡ away l.plan l.i (take l.r-index l.reads)
