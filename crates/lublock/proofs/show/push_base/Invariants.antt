use Rattle.lublock.specs.Shown.{IsAdded, present_at}
use Rattle.lublock.proofs.show.push_base.Given as goal

abbrev pub invariant-loop-n : goal.invariant-loop-n
invariant-loop-n l = IsAdded l.fn.column.items l.column.items l.n (present_at l.kind l.row)
