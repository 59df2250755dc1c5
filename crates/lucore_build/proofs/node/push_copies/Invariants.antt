use Rattle.std.proofs.Common.{◌≡◌, ◌++◌, replicate}
use Rattle.lucore_build.proofs.node.push_copies.Given as goal

abbrev pub invariant-loop : goal.invariant-loop
invariant-loop l = l.owners.items ≡ l.initial.owners.items ++ replicate l.counter l.owner
