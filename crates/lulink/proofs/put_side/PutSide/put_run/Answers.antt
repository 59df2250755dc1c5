use Rattle.std.proofs.Common.{◌+◌, ap, ◌∙◌}
use Rattle.std.specs.Prelude.{slice_get}
use Rattle.lulink.specs.Insides.{given_list}
use Rattle.lulink.proofs.Parts.{at_take}
use Rattle.lulink.proofs.put_side.PutSide.put_run.Goals as goal

pub put_all-requires-clause-next : goal.put_all-requires-clause-next
put_all-requires-clause-next c i m at =
    ap (λ n. slice_get (given_list c.args.ring.now.shared.key) (n + i)) c.if-not-has_room_for.ensures.sought.0 ∙ c.requires.next i m (at_take _ _ i m at)
