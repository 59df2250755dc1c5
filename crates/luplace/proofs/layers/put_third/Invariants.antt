use Rattle.luplace.specs.Layers.{third_row, HasMore}
use Rattle.luplace.proofs.layers.put_third.Given as goal

abbrev pub invariant-loop-i : goal.invariant-loop-i
invariant-loop-i l = HasMore third_row l.i l.initial.rows.items l.rows.items
