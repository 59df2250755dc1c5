use Rattle.std.proofs.Common.{◌≡◌, ◌-◌, ◌≤◌, ◌++◌, take, drop}
use Rattle.std.specs.Prelude.{vec_capacity}
use Rattle.lulink.specs.Insides.{given_list, HasEmptied}
use Rattle.lulink.proofs.take_side.TakeSide.empty.Given as goal

abbrev pub invariant-loop-i : goal.invariant-loop-i
invariant-loop-i l = (l.i ≤ l.there) × HasEmptied l.ring.shared.key l.initial.self l.i l.self
    × (l.into.items ≡ l.initial.into.items ++ take l.i (drop l.initial.self.count (given_list l.ring.shared.key))) × (vec_capacity l.into ≡ vec_capacity l.initial.into)

abbrev pub decreases-loop-i : goal.decreases-loop-i
decreases-loop-i l = l.there - l.i
