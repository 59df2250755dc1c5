use Rattle.std.proofs.Common.{take}
use Rattle.lucore_laws.specs.Search.{AreFree}
use Rattle.lucore_laws.proofs.ranking.free_places.Given as goal

abbrev pub invariant-loop-place : goal.invariant-loop-place
invariant-loop-place l = AreFree (take l.place l.missing) l.ready
