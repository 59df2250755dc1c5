use Rattle.std.proofs.Common.{◌≡◌, ◌++◌, drop}
use Rattle.lucore_build.specs.Listed.{links_from}
use Rattle.lucore_build.proofs.needed.links_of.Given as goal

abbrev pub invariant-loop-from : goal.invariant-loop-from
invariant-loop-from l = links_from 0 l.graph ≡ l.links.items ++ links_from l.from (drop l.from l.graph)
