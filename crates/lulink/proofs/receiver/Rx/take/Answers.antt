use Rattle.std.proofs.Common.{sym, ◌∙◌, subst, IfOk, IfErr}
use Rattle.lulink.specs.Views.{IsNextToTake, IsWholeAt, HasTaken}
use Rattle.lulink.specs.Seen.{FoundOne, FoundNothingLeft}
use Rattle.lulink.proofs.Waits.{listened_again, listened_none, polled_none, take_done, take_gone}
use Rattle.lulink.proofs.receiver.Rx.take.Goals as goal
use Rattle.lulink.proofs.receiver.Rx.take.Goals.{in-Some-poll-2, in-None-poll}

pub returns-then-gone-clause-one : goal.returns-then-gone-clause-one
returns-then-gone-clause-one g c =
    let none = c.poll.ensures.seen in
    let h = c.gone.ensures.seen in
    let heard = listened_again _ _ _ _ (listened_none _ _ _ _ c.loop.invariant.2 (polled_none _ _ _ _ (λ m. c.in_default.not-Some m) none.1)) h.1 in
    elim c.match-poll-2.branch [
      | in-Some-poll-2 w ↦ subst (λ r. IfOk r (λ _. FoundOne c.args.self.now c.poll-then-gone.new.self)) (sym w.result-is) (take_done _ _ _ _ _ heard w.in-Some-poll-2.ensures.seen.1).1
      | in-None-poll w ↦ subst (λ r. IfOk r (λ _. FoundOne c.args.self.now c.poll-then-gone.new.self)) (sym w.result-is) tt
    ]

pub returns-then-gone-clause-none : goal.returns-then-gone-clause-none
returns-then-gone-clause-none g c =
    let none = c.poll.ensures.seen in
    let h = c.gone.ensures.seen in
    let heard = listened_none _ _ _ _ c.loop.invariant.2 (polled_none _ _ _ _ (λ m. c.in_default.not-Some m) none.1) in
    elim c.match-poll-2.branch [
      | in-Some-poll-2 w ↦ subst (λ r. IfErr r (λ _. FoundNothingLeft c.args.self.now c.poll-then-gone.new.self)) (sym w.result-is) tt
      | in-None-poll w ↦ subst (λ r. IfErr r (λ _. FoundNothingLeft c.args.self.now c.poll-then-gone.new.self)) (sym w.result-is)
          (take_gone _ _ _ _ _ _ heard h.1 (sym h.2 ∙ c.if-gone.true) w.in-None-poll.ensures.seen.1 w.in-None-poll.ensures.seen.2).1
    ]

pub returns-then-gone-clause-taken : goal.returns-then-gone-clause-taken
returns-then-gone-clause-taken g c =
    let none = c.poll.ensures.seen in
    let h = c.gone.ensures.seen in
    let heard = listened_again _ _ _ _ (listened_none _ _ _ _ c.loop.invariant.2 (polled_none _ _ _ _ (λ m. c.in_default.not-Some m) none.1)) h.1 in
    elim c.match-poll-2.branch [
      | in-Some-poll-2 w ↦ subst (λ r. IfOk r (λ m. HasTaken m c.args.self.now c.poll-then-gone.new.self × IsNextToTake c.args.self.now m)) (sym w.result-is) (take_done _ _ _ _ _ heard w.in-Some-poll-2.ensures.seen.1).0
      | in-None-poll w ↦ subst (λ r. IfOk r (λ m. HasTaken m c.args.self.now c.poll-then-gone.new.self × IsNextToTake c.args.self.now m)) (sym w.result-is) tt
    ]

pub returns-then-gone-clause-whole : goal.returns-then-gone-clause-whole
returns-then-gone-clause-whole g c =
    elim c.match-poll-2.branch [
      | in-Some-poll-2 w ↦ subst (λ r. IfOk r (λ m. IsWholeAt m c.poll-then-gone.new.self)) (sym w.result-is) w.in-Some-poll-2.ensures.whole
      | in-None-poll w ↦ subst (λ r. IfOk r (λ m. IsWholeAt m c.poll-then-gone.new.self)) (sym w.result-is) tt
    ]
