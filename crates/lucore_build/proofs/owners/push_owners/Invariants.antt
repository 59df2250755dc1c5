use Rattle.std.proofs.Common.{◌≡◌, ◌++◌, map, take}
use Rattle.lutree.specs.Tree.{node_view}
use Rattle.lustat_rules.specs.Scopes.{spellings}
use Rattle.lucore_build.specs.Nodes.{owners_found}
use Rattle.lucore_build.proofs.owners.push_owners.Given as goal

abbrev pub invariant-loop-d : goal.invariant-loop-d
invariant-loop-d l = l.owners.items ≡ l.initial.owners.items ++ owners_found (node_view l.scope) l.places l.known (spellings (map (λ d. d.now) (take l.d-index l.declarations)))
