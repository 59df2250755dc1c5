use Rattle.std.proofs.Common.{◌+◌, ◌-◌, ◌<◌, take, Option, IfSome, sym, ap, ◌∙◌, subst}
use Rattle.std.specs.Prelude.{slice_get}
use Rattle.luflow.specs.declared.message.Msg.{Msg}
use Rattle.lulink.specs.Words.{number, IsFinal, RestsOn}
use Rattle.lulink.specs.Counts.{WentWell}
use Rattle.lulink.specs.Views.{ReceiverView, IsNextToTake, IsWholeAt}
use Rattle.lulink.specs.Seen.{TookOne, Polled, HadOne}
use Rattle.lulink.specs.Insides.{given_list, receiver_view}
use Rattle.lulink.proofs.Closing.{close_ends}
use Rattle.lulink.proofs.Waits.{polled_taken}
use Rattle.lulink.proofs.Ends.{next_there, taken_length, receiver_moved}
use Rattle.lulink.proofs.receiver.Rx.poll.Goals as goal

pub returns-clause-seen : goal.returns-clause-seen
returns-clause-seen c =
    let d = c.deref-ring.ensures in
    let side = c.if-not-has_message.ensures.side in
    let sought = c.if-not-has_message.ensures.sought in
    let w = c.has_message.new.self.word in
    let there = next_there side sought.2 in
    let x = there.1.0 in
    let next = (λ i. slice_get (given_list (sym d i).shared.key) (sym sought.0 i)) ∙ there.1.1 in
    let length_is = taken_length c.self.inside c.self.invariant in
    let rests = subst (λ l. RestsOn c.self.inside.side.seat.me.0.seen w l) (sym c.take.ensures.seen) sought.1 in
    let well = subst (λ l. WentWell (number w - c.self.inside.side.count) c.self.inside.side.seat.me.0.seen w l c.self.inside.counts c.has_message.new.counts) (sym c.take.ensures.seen) c.if-not-has_message.ensures.counted in (
      w,
      subst (λ (o : Option Msg). Polled o c.args.self.now w (receiver_view record { ring = c.self.inside.ring; side = c.take.new.self; link = c.self.inside.link; counts = c.has_message.new.counts })) (sym (c.take.ensures.next ∙ there.1.1)) (
        subst (λ (r : ReceiverView). TookOne x r w (receiver_view record { ring = c.self.inside.ring; side = c.take.new.self; link = c.self.inside.link; counts = c.has_message.new.counts })) c.self.view_is
            (receiver_moved c.self.inside c.take.new.self c.has_message.new.counts w x c.self.invariant (c.take.ensures.count ∙ ap (λ n. n + 1) sought.0) rests next well),
        subst (λ (r : ReceiverView). IsNextToTake r x) c.self.view_is (ap (λ n. slice_get (given_list c.self.inside.ring.value.shared.key) n) length_is ∙ next),
        subst (λ (r : ReceiverView). HadOne r w) c.self.view_is (subst (λ n. n < number w) (sought.0 ∙ sym length_is) there.0),
      ),
      subst (λ (r : ReceiverView). IsFinal r.seen w) c.self.view_is sought.3,
    )

pub returns-clause-taken : goal.returns-clause-taken
returns-clause-taken c = polled_taken _ _ _ _ (returns-clause-seen c).1

pub returns-clause-whole : goal.returns-clause-whole
returns-clause-whole c =
    let d = c.deref-ring.ensures in
    let side = c.if-not-has_message.ensures.side in
    let sought = c.if-not-has_message.ensures.sought in
    let there = next_there side sought.2 in
    let x = there.1.0 in
    let next = (λ i. slice_get (given_list (sym d i).shared.key) (sym sought.0 i)) ∙ there.1.1 in
    let key = c.self.inside.ring.value.shared.key in
    subst (λ (o : Option Msg). IfSome o (λ m. IsWholeAt m (receiver_view record { ring = c.self.inside.ring; side = c.take.new.self; link = c.self.inside.link; counts = c.has_message.new.counts }))) (sym (c.take.ensures.next ∙ there.1.1))
    (λ closes. ap (λ n. take n (given_list key)) (c.take.ensures.count ∙ ap (λ n. n + 1) sought.0) ∙ close_ends key.job.value key.link c.self.inside.side.count x next closes)
