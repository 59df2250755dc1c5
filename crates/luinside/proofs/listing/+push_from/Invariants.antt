use Rattle.std.proofs.Common.{◌≡◌, ◌-◌, ◌++◌, take}
use Rattle.lutree.specs.Tree.{program_view}
use Rattle.luinside.specs.Listing.{each_call}
use Rattle.luinside.proofs.Going.{inner_of}
use Rattle.luinside.proofs.listing.+push_from.Given as goal

abbrev pub decreases-push_from : goal.decreases-push_from
decreases-push_from l = l.depth

abbrev pub invariant-loop-k : goal.invariant-loop-k
invariant-loop-k l =
    l.found.items ≡ l.initial.found.items ++ each_call (inner_of (program_view l.catalog) l.counts (l.depth - 1) l.here.path l.here.start) 0 (take l.k l.call-items)
