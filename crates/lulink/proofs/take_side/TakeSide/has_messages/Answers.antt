use Rattle.std.proofs.Common.{arith}
use Rattle.lulink.proofs.Steps.{sees_tail}
use Rattle.lulink.proofs.Ends.{take_slots}
use Rattle.lulink.proofs.take_side.TakeSide.has_messages.Goals as goal

pub load-word-requires : goal.load-word-requires
load-word-requires c =
    let i = c.requires.side in
    let words = i.ring.words in
    (i.table, omega arith, sees_tail _ _ _ _ _ (take_slots _ _ _ i) i.ring.slots i.ends.0)
