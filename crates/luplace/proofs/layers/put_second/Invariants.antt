use Rattle.luplace.specs.Layers.{second_row, HasMore}
use Rattle.luplace.proofs.layers.put_second.Given as goal

abbrev pub invariant-loop-i : goal.invariant-loop-i
invariant-loop-i l = HasMore (second_row l.plan) l.i l.initial.rows.items l.rows.items
