use Rattle.std.proofs.Common.{◌+◌, ◌-◌, ◌<◌, ℕ, sym, ap, ◌∙◌, subst, arith}
use Rattle.lulink.specs.declared.sender.Offer.TheVariants.{Done}
use Rattle.lulink.specs.Words.{number, IsFinal, RestsOn}
use Rattle.lulink.specs.Counts.{WentWell}
use Rattle.lulink.specs.Views.{SenderView}
use Rattle.lulink.specs.Seen.{PutOne, HadRoom}
use Rattle.lulink.specs.Insides.{sender_view}
use Rattle.lulink.proofs.Waits.{offered_put}
use Rattle.lulink.proofs.Ends.{next_at, put_length, sender_moved}
use Rattle.lulink.proofs.sender.Tx.offer.Goals as goal

pub returns-clause-seen : goal.returns-clause-seen
returns-clause-seen c =
    let d = c.deref-ring.ensures in
    let side = c.if-not-has_room.ensures.side in
    let sought = c.if-not-has_room.ensures.sought in
    let w = c.has_room.new.self.word in
    let next = next_at c.self.inside _ _ c.self.invariant c.self.view_is c.requires in
    let any = sought.2 in
    let held = side.room in
    let free : c.has_room.new.self.count < number w + c.deref-ring.result.now.shared.key.capacity = omega arith in
    let rests = subst (λ l. RestsOn c.self.inside.side.seat.me.0.seen w l) (sym c.put.ensures.seen) sought.1 in
    let well = subst (λ l. WentWell (c.self.inside.side.count - number w) c.self.inside.side.seat.me.0.seen w l c.self.inside.counts c.has_room.new.counts) (sym c.put.ensures.seen) c.if-not-has_room.ensures.counted in (
      w,
      (
        subst (λ (s : SenderView). PutOne c.args.msg s w (sender_view record { ring = c.self.inside.ring; side = c.put.new.self; link = c.self.inside.link; counts = c.has_room.new.counts })) c.self.view_is
            (sender_moved c.self.inside c.put.new.self c.has_room.new.counts w c.args.msg c.self.invariant (c.put.ensures.count ∙ ap (λ n. n + 1) sought.0) rests next well),
        subst (λ (s : SenderView). HadRoom s w) c.self.view_is (subst (λ (y : ℕ × ℕ). y.0 < number w + y.1) (λ i. ((sought.0 ∙ sym (put_length c.self.inside c.self.invariant)) i, (d i).shared.key.capacity)) free),
      ),
      subst (λ (s : SenderView). IsFinal s.seen w) c.self.view_is sought.3,
    )

pub returns-clause-put : goal.returns-clause-put
returns-clause-put c =
    offered_put Done c.args.msg c.args.self.now (returns-clause-seen c).0 (sender_view record { ring = c.self.inside.ring; side = c.put.new.self; link = c.self.inside.link; counts = c.has_room.new.counts }) (returns-clause-seen c).1
