use Rattle.std.proofs.Common.{◌++◌, take, drop, ◌∙◌, subst}
use Rattle.atomic_table.specs.Seated.{TableId}
use Rattle.lulink.specs.declared.rule.Terms.{Terms}
use Rattle.lulink.specs.Words.{IsFinal}
use Rattle.lulink.specs.Counts.{AreCounts}
use Rattle.lulink.specs.Views.{ReceiverView, IsRunTaken}
use Rattle.lulink.specs.Seen.{PolledRun}
use Rattle.lulink.specs.Insides.{given_list, receiver_view, IsTakeSide}
use Rattle.lulink.proofs.Ends.{receiver_ran, receiver_learned, receiver_whole}
use Rattle.lulink.proofs.receiver.Rx.poll_run.Goals as goal
use Rattle.lulink.proofs.receiver.Rx.poll_run.Goals.{After-take_run}

side : (c : After-take_run) → IsTakeSide c.self.inside.ring.value.shared.table_id c.self.inside.ring.value.shared.key c.take_run.new.self
side c = let d = c.deref-ring.ensures in subst (λ (y : TableId × Terms). IsTakeSide y.0 y.1 c.take_run.new.self) (λ i. ((d i).shared.table_id, (d i).shared.key)) c.take_run.ensures.side

counts : (c : After-take_run) → AreCounts c.take_run.new.self.count c.self.inside.ring.value.shared.key.capacity c.take_run.new.counts
counts c = let d = c.deref-ring.ensures in subst (λ n. AreCounts c.take_run.new.self.count n c.take_run.new.counts) (λ i. (d i).shared.key.capacity) c.take_run.ensures.counts

pub returns-clause-taken : goal.returns-clause-taken
returns-clause-taken c =
    let d = c.deref-ring.ensures in
    let e = c.take_run.ensures in
    subst (λ (r : ReceiverView). IsRunTaken c.take_run.result c.args.into.now.items c.take_run.new.into.items r (receiver_view record { ring = c.self.inside.ring; side = c.take_run.new.self; link = c.self.inside.link; counts = c.take_run.new.counts })) c.self.view_is
    (receiver_ran c.self.inside c.take_run.new.self c.take_run.new.counts c.take_run.result _ _ c.self.invariant (side (goal.at.returns-clause-taken c).After-take_run) e.count (e.into ∙ (λ i. c.args.into.now.items ++ take c.take_run.result (drop c.self.inside.side.count (given_list (d i).shared.key)))))

pub returns-clause-whole : goal.returns-clause-whole
returns-clause-whole c =
    receiver_whole record { ring = c.self.inside.ring; side = c.take_run.new.self; link = c.self.inside.link; counts = c.take_run.new.counts } record { number = c.self.invariant.number; side = side (goal.at.returns-clause-whole c).After-take_run; counts = counts (goal.at.returns-clause-whole c).After-take_run }

pub returns-clause-seen : goal.returns-clause-seen
returns-clause-seen c =
    let e = c.take_run.ensures in (
      c.take_run.new.self.word,
      subst (λ (r : ReceiverView). PolledRun c.args.most c.take_run.result r c.take_run.new.self.word (receiver_view record { ring = c.self.inside.ring; side = c.take_run.new.self; link = c.self.inside.link; counts = c.take_run.new.counts })) c.self.view_is
          (receiver_learned c.self.inside c.take_run.new.self c.take_run.new.counts c.args.most c.take_run.result c.self.invariant (side (goal.at.returns-clause-seen c).After-take_run) e.count e.rests (λ lt. (e.loaded lt, e.empty lt)) e.look e.idle e.well e.waits),
      subst (λ (r : ReceiverView). IsFinal r.seen c.take_run.new.self.word) c.self.view_is e.last,
    )
