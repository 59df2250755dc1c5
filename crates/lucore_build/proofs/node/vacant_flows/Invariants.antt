use Rattle.std.proofs.Common.{◌≡◌, replicate}
use Rattle.lucore_build.specs.Walks.{vacant}
use Rattle.lucore_build.proofs.node.vacant_flows.Given as goal

abbrev pub invariant-loop : goal.invariant-loop
invariant-loop l = l.flows.items ≡ replicate l.counter vacant
