use Rattle.std.proofs.Common.{◌≡◌, map, take}
use Rattle.lustat_rules.specs.Scopes.{node_spellings}
use Rattle.lustat_rules.proofs.catalog.places_of_nodes.Given as goal

abbrev pub invariant-loop-node : goal.invariant-loop-node
invariant-loop-node l = map (λ n. n.now) l.names.items ≡ node_spellings (take l.node-index l.nodes)
