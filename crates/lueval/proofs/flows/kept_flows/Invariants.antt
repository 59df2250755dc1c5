use Rattle.lueval.proofs.Wanting.{WantedTo}
use Rattle.lueval.proofs.flows.kept_flows.Given as goal

abbrev pub invariant-loop-i : goal.invariant-loop-i
invariant-loop-i l = WantedTo l.wanted l.kept.items l.i
