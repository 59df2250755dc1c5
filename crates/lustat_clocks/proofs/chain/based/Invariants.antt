use Rattle.lustat_rules.specs.Lent.{lent_view}
use Rattle.lustat_clocks.specs.Chains.{AreBased}
use Rattle.lustat_clocks.proofs.chain.based.Given as goal

abbrev pub invariant-loop-i : goal.invariant-loop-i
invariant-loop-i l = AreBased (lent_view l.declarations) l.i l.starts.items
