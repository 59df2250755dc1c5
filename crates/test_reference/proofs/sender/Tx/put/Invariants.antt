use Rattle.lulink.specs.Views.{HasPutNothing}
use Rattle.test_reference.proofs.sender.Tx.put.Given as goal

abbrev pub invariant-loop : goal.invariant-loop
invariant-loop g l = (goal.iterator-loop g).can_next l.iterator' × (goal.iterator-loop g).is_finite l.iterator' × HasPutNothing l.initial.self l.self
