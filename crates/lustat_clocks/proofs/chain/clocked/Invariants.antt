use Rattle.lutree.specs.Tree.{node_view}
use Rattle.lustat_rules.specs.Lent.{lent_view}
use Rattle.lustat_clocks.specs.Chains.{AreClocked}
use Rattle.lustat_clocks.proofs.chain.clocked.Given as goal

abbrev pub invariant-loop-i : goal.invariant-loop-i
invariant-loop-i l = AreClocked (node_view l.scope) (lent_view l.declarations) l.i l.links.items
