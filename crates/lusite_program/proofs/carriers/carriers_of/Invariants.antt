use Rattle.lusite_program.specs.Carriers.{AreCarriersTo}
use Rattle.lusite_program.proofs.carriers.carriers_of.Given as goal

abbrev pub invariant-loop-l : goal.invariant-loop-l
invariant-loop-l l = AreCarriersTo l.links l.site l.flows l.l l.sources.items l.rows.items
