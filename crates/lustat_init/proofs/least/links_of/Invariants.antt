use Rattle.std.proofs.Common.{◌≡◌, ◌+◌, ◌++◌, drop, map}
use Rattle.lutree.specs.Tree.{node_view, equation_view}
use Rattle.lustat_init.specs.Linked.{links_in}
use Rattle.lustat_init.proofs.least.links_of.Given as goal

abbrev pub invariant-loop-i : goal.invariant-loop-i
invariant-loop-i l =
    l.links.items ++ links_in (node_view l.scope) (l.first + l.i) (map equation_view (drop l.i l.equations)) ≡ links_in (node_view l.scope) l.first (map equation_view l.equations)
