use Rattle.std.proofs.Common.{◌+◌, ap, sym, arith}
use Rattle.lulink.specs.Words.{top}
use Rattle.lulink.proofs.Steps.{leaves_tail}
use Rattle.lulink.proofs.put_side.PutSide.leave.Goals as goal

pub store-requires : goal.store-requires
store-requires c =
    let i = c.requires in
    let words = i.ring.words in
    (i.table, omega arith, leaves_tail _ _ _ _ _ _ i.ends.0 i.here (ap (λ n. n + top) (sym i.count)))
