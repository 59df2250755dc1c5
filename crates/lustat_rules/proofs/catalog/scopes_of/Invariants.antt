use Rattle.std.proofs.Common.{◌≡◌, take}
use Rattle.lustat_rules.proofs.catalog.scopes_of.Given as goal

abbrev pub invariant-loop-node : goal.invariant-loop-node
invariant-loop-node l = l.scopes.items ≡ take l.node-index l.nodes
