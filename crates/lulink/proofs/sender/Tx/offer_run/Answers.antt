use Rattle.std.proofs.Common.{◌≡◌, ◌<◌, ◌+◌, length, take, ◌∙◌, subst}
use Rattle.std.specs.Prelude.{slice_get}
use Rattle.atomic_table.specs.Seated.{TableId}
use Rattle.lulink.specs.declared.rule.Terms.{Terms}
use Rattle.lulink.specs.Words.{number, IsFinal, HasSeen}
use Rattle.lulink.specs.Views.{SenderView, HasPutAll}
use Rattle.lulink.specs.Seen.{OfferedRun}
use Rattle.lulink.specs.Insides.{given_list, sender_view, IsPutSide}
use Rattle.lulink.proofs.Ends.{all_next_at, sender_ran, sender_learned}
use Rattle.lulink.proofs.sender.Tx.offer_run.Goals as goal

pub put_run-requires-clause-next : goal.put_run-requires-clause-next
put_run-requires-clause-next c k m at =
    let d = c.deref-ring.ensures in
    (λ i. slice_get (given_list (d i).shared.key) (c.self.inside.side.count + k)) ∙ all_next_at c.self.inside _ _ c.self.invariant c.self.view_is c.requires k m at

pub returns-clause-put : goal.returns-clause-put
returns-clause-put c =
    subst (λ (s : SenderView). HasPutAll (take c.put_run.result c.args.msgs.now) s (sender_view record { ring = c.self.inside.ring; side = c.put_run.new.self; link = c.self.inside.link; counts = c.put_run.new.counts })) c.self.view_is
    (sender_ran c.self.inside c.put_run.new.self c.put_run.new.counts c.put_run.result c.args.msgs.now c.put_run.ensures.count c.put_run.ensures.within (all_next_at c.self.inside _ _ c.self.invariant c.self.view_is c.requires))

pub returns-clause-seen : goal.returns-clause-seen
returns-clause-seen c =
    let d = c.deref-ring.ensures in
    let e = c.put_run.ensures in
    let side = subst (λ (y : TableId × Terms). IsPutSide y.0 y.1 c.put_run.new.self) (λ i. ((d i).shared.table_id, (d i).shared.key)) e.side in
    let full : c.put_run.result < length c.args.msgs.now → HasSeen c.self.inside.side.seat.me.0.seen c.put_run.new.self.word c.put_run.new.self.seat.me.0.seen × (c.put_run.new.self.count ≡ number c.put_run.new.self.word + c.self.inside.ring.value.shared.key.capacity) = λ lt. (e.loaded lt, e.full lt ∙ (λ i. number c.put_run.new.self.word + (d i).shared.key.capacity)) in (
      c.put_run.new.self.word,
      subst (λ (s : SenderView). OfferedRun (length c.args.msgs.now) c.put_run.result s c.put_run.new.self.word (sender_view record { ring = c.self.inside.ring; side = c.put_run.new.self; link = c.self.inside.link; counts = c.put_run.new.counts })) c.self.view_is
          (sender_learned c.self.inside c.put_run.new.self c.put_run.new.counts (length c.args.msgs.now) c.put_run.result c.self.invariant side e.count e.rests full e.look e.idle e.well e.waits),
      subst (λ (s : SenderView). IsFinal s.seen c.put_run.new.self.word) c.self.view_is e.last,
    )
