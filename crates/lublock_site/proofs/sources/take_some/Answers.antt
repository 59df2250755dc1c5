use Rattle.std.proofs.Common.{refl}
use Rattle.lublock_site.proofs.Passing.{brought_none, brought_on}
use Rattle.lublock_site.proofs.sources.take_some.Goals as goal

pub returns-in-Moved-poll_some : goal.returns-in-Moved-poll_some
returns-in-Moved-poll_some c =
    let flat = c.args.flat.now in
    let x = c.args.source.now in
    let y = c.poll_some.new.source in
    let b = c.poll_some.new.board in
    let z = record y { rx = c.gone.new.self } in
    brought_on flat c.args.board.now x b z c.poll_some-in-Blocked.new.board c.poll_some-in-Blocked.new.source
    (brought_on flat c.args.board.now x b y b z c.in-Blocked.ensures (brought_none flat y.flow b y z refl refl refl c.gone.ensures.taken)) c.in-Moved-poll_some.ensures
