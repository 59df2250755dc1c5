use Rattle.std.proofs.Common.{◌≡◌, ◌++◌, drop}
use Rattle.lutree.specs.Tree.{node_view}
use Rattle.lustat_init.specs.Linked.{writes_in}
use Rattle.lustat_init.proofs.least.push_writes.Given as goal

abbrev pub invariant-loop-x : goal.invariant-loop-x
invariant-loop-x l =
    l.links.items ++ writes_in (node_view l.scope) l.equation (drop l.x-index l.names) ≡ l.fn.links.items ++ writes_in (node_view l.scope) l.equation l.names
