use Rattle.std.proofs.Common.{arith, ap, ◌∙◌}
use Rattle.luworld.specs.Needs.{PlanView}
use Rattle.lurun.proofs.OpenedEnds.{half_length, link_added}
use Rattle.lurun.proofs.opening.add_link.Goals as goal

pub add_receiver-requires : goal.add_receiver-requires
add_receiver-requires c =
    let len = c.requires.so_far.len in
    let l = c.sender_of-from.ensures.inside in
    let r = c.receiver_of-to.ensures.inside in
    let n = half_length c.args.all.now.items c.add_sender.new.all.items c.sender_of-from.result c.in-Ok.tx (omega (arith, l, len)) c.in_ok-add_sender.ensures in
    omega (arith, n, r, len)

pub returns : goal.returns
returns c =
    let room = c.capacity.ensures ∙ ap (λ (q : PlanView). q.capacity) c.plan.ensures.plan in
    link_added c.args.job.now c.args.l c.sender_of-from.result c.receiver_of-to.result c.args.all.now.items c.add_sender.new.all.items c.add_receiver.new.all.items c.requires.so_far c.in-Ok.tx c.in-Ok.rx
    c.in-Ok.ensures.sender c.in-Ok.ensures.receiver c.in-Ok.ensures.ring (c.in-Ok.ensures.room.0 ∙ room, c.in-Ok.ensures.room.1 ∙ room) c.sender_of-from.ensures.is c.receiver_of-to.ensures.is c.sender_of-from.ensures.inside c.receiver_of-to.ensures.inside c.in_ok-add_sender.ensures c.in_ok-add_receiver.ensures
