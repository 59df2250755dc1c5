use Rattle.std.proofs.Common.{◌≡◌, ◌++◌, map, take}
use Rattle.lubase.specs.Reach.{link}
use Rattle.lucore_build.proofs.needed.push_links.Given as goal

abbrev pub invariant-loop-to : goal.invariant-loop-to
invariant-loop-to l = l.links.items ≡ l.initial.links.items ++ map (link l.from) (take l.to-index l.row)
