use Rattle.std.proofs.Common.{map}
use Rattle.lutree.specs.Tree.{equation_view}
use Rattle.lustat_init.specs.Linked.{AreStarts}
use Rattle.lustat_init.proofs.least.starts_of.Given as goal

abbrev pub invariant-loop-i : goal.invariant-loop-i
invariant-loop-i l = AreStarts (map equation_view l.equations) l.first l.i l.starts.items
