use Rattle.std.proofs.Common.{List, take, ◌+◌, refl, sym, subst}
use Rattle.std.proofs.lemmas.List.{length-take-le}
use Rattle.luflow.specs.declared.message.Msg.{Msg}
use Rattle.lulink.specs.Views.{AreNextToPut}
use Rattle.lublock_site.specs.declared.outlets.Outlet.{Outlet}
use Rattle.lublock_site.proofs.Passing.{may_put, sent_run, goes}
use Rattle.lublock_site.proofs.outlets.offer_some.Goals as goal

pub offer_run-put-requires : goal.offer_run-put-requires
offer_run-put-requires c =
    let x = c.args.outlet.now in
    subst (λ (ms : List Msg). AreNextToPut x.tx ms) (sym c.as_slice.ensures.value)
    (may_put c.args.flat.now c.args.rows.now c.args.spans.now x c.fill.new.run.items c.requires.may (c.fill.ensures.filled c.if-not-fill.false))

pub returns-clause-sent : goal.returns-clause-sent
returns-clause-sent c =
    let x = c.args.outlet.now in
    let n = c.offer_run-put.result in
    let msgs = c.as_slice.result.now in
    let z : Outlet = record x { tx = c.offer_run-put.new.self; sent = x.sent + n; number = c.in-Some.number } in
    goes c.moved_if.result _
    (sent_run c.args.flat.now x z (take n msgs) n (length-take-le n msgs c.offer_run-put.ensures.within) c.requires.may.unclosed refl refl c.in-Some.ensures refl c.offer_run-put.ensures.put)
