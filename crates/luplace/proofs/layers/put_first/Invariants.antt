use Rattle.luplace.specs.Layers.{first_row, HasMore}
use Rattle.luplace.proofs.layers.put_first.Given as goal

abbrev pub invariant-loop-i : goal.invariant-loop-i
invariant-loop-i l = HasMore (first_row l.plan) l.i l.initial.rows.items l.rows.items
