use Rattle.std.proofs.Common.{take}
use Rattle.lubase.specs.ReachStates.{IsEntered}
use Rattle.lubase.proofs.reach.enter.Given as goal

abbrev pub invariant-loop-v : goal.invariant-loop-v
invariant-loop-v l = IsEntered (take l.v-index l.row) l.fn.marks.items l.marks.items l.fn.stack.items l.stack.items
