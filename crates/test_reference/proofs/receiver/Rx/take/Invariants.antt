use Rattle.lulink.specs.Views.{HasTakenNothing}
use Rattle.test_reference.proofs.receiver.Rx.take.Given as goal

abbrev pub invariant-loop : goal.invariant-loop
invariant-loop g l = (goal.iterator-loop g).can_next l.iterator' × (goal.iterator-loop g).is_finite l.iterator' × HasTakenNothing l.initial.self l.self
