use Rattle.std.proofs.Common.{length, ◌-◌, ◌≤◌}
use Rattle.lulink.specs.Insides.{HasFilled}
use Rattle.lulink.proofs.put_side.PutSide.fill.Given as goal

abbrev pub invariant-loop-i : goal.invariant-loop-i
invariant-loop-i l = (l.i ≤ length l.msgs) × HasFilled l.ring.shared.key l.initial.self l.i l.self

abbrev pub decreases-loop-i : goal.decreases-loop-i
decreases-loop-i l = length l.msgs - l.i
