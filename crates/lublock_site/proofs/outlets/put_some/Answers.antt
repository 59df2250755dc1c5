use Rattle.std.proofs.Common.{refl}
use Rattle.lublock_site.proofs.Passing.{sent_none, sent_more}
use Rattle.lublock_site.proofs.outlets.put_some.Goals as goal

pub returns-else-gone-clause-sent : goal.returns-else-gone-clause-sent
returns-else-gone-clause-sent c =
    let flat = c.args.flat.now in
    let y = c.offer_some.new.outlet in
    let z = record y { tx = c.gone.new.self } in
    sent_more flat c.args.outlet.now y z c.in-Blocked.ensures.sent (sent_none flat y z refl refl refl refl c.gone.ensures.put)
