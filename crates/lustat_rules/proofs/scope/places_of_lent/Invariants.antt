use Rattle.std.proofs.Common.{◌≡◌, map, take}
use Rattle.lustat_rules.specs.Scopes.{spellings}
use Rattle.lustat_rules.proofs.scope.places_of_lent.Given as goal

abbrev pub invariant-loop-d : goal.invariant-loop-d
invariant-loop-d l = map (λ n. n.now) l.names.items ≡ spellings (map (λ d. d.now) (take l.d-index l.declarations))
