use Rattle.std.proofs.Common.{arith}
use Rattle.lulink.proofs.Steps.{sees_head}
use Rattle.lulink.proofs.Ends.{put_slots}
use Rattle.lulink.proofs.put_side.PutSide.has_room_for.Goals as goal

pub load-word-requires : goal.load-word-requires
load-word-requires c =
    let i = c.requires.side in
    let words = i.ring.words in
    (i.table, omega arith, sees_head _ _ _ _ _ (put_slots _ _ _ i) i.ring.slots i.ends.0)
