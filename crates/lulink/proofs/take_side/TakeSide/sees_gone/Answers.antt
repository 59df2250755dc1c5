use Rattle.std.proofs.Common.{arith}
use Rattle.lulink.proofs.Steps.{looks_tail}
use Rattle.lulink.proofs.Ends.{take_side_looked}
use Rattle.lulink.proofs.take_side.TakeSide.sees_gone.Goals as goal

pub load-word-requires : goal.load-word-requires
load-word-requires c =
    let i = c.requires in
    let words = i.ring.words in
    (i.table, omega arith, looks_tail _ _ _ _ _ i.ends.0)

pub returns-clause-side : goal.returns-clause-side
returns-clause-side c = let look = c.load-word.ensures.2 in take_side_looked _ _ _ c.requires _ c.load-word.ensures.0 _ look.0 look.1
