use Rattle.std.proofs.Common.{◌≡◌, ◌++◌, take}
use Rattle.lustat_rules.specs.Scopes.{spellings}
use Rattle.lucore_build.specs.Nodes.{flows_found}
use Rattle.lucore_build.proofs.open.push_variables.Given as goal

abbrev pub invariant-loop-d : goal.invariant-loop-d
invariant-loop-d l = l.flows.items ≡ l.initial.flows.items ++ flows_found l.places l.defined (spellings (take l.d-index l.declarations))
