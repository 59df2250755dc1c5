use Rattle.std.proofs.Common.{rules, List, ◌≡◌, ◌++◌, refl, subst, ap, ◌∙◌}
use Rattle.luflow.specs.declared.message.Msg.{Msg}
use Rattle.lublock_site.specs.Steps.{HasTakenMessages}
use Rattle.lublock_site.proofs.Passing.{brought_run, goes}
use Rattle.lublock_site.proofs.sources.poll_some.Goals as goal

pub returns : goal.returns
returns c =
    let flat = c.args.flat.now in
    let x = c.args.source.now in
    let old = c.args.board.now in
    let new = c.take_messages.new.board in
    let taken = c.poll_run-came.ensures.taken in
    let msgs = taken.0 in
    let is : c.as_slice.result.now ≡ msgs = c.as_slice.ensures.value ∙ taken.2 ∙ ap (λ (xs : List Msg). xs ++ msgs) c.clear.ensures.items in
    let words : HasTakenMessages flat x.flow msgs old new = subst (λ (xs : List Msg). HasTakenMessages flat x.flow xs old new) is (c.take_messages.ensures c.if-not-take_messages.false) in
    goes c.moved_if.result _
    (brought_run flat x.flow old new x (record x { rx = c.poll_run-came.new.self; got = c.in-Some.got }) msgs c.poll_run-came.result taken.1 taken.4 taken.3 words refl refl (search rules))
