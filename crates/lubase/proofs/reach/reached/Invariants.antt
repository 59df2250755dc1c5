use Rattle.lubase.specs.ReachStates.{IsSearching, steps_left}
use Rattle.lubase.proofs.reach.reached.Given as goal

abbrev pub invariant-loop-v : goal.invariant-loop-v
invariant-loop-v l = IsSearching l.starts l.links l.rows.items l.marks.items l.stack.items

abbrev pub decreases-loop-v : goal.decreases-loop-v
decreases-loop-v l = steps_left l.marks.items l.stack.items
