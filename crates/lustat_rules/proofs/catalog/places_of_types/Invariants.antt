use Rattle.std.proofs.Common.{◌≡◌, map, take}
use Rattle.lustat_rules.specs.Scopes.{type_spellings}
use Rattle.lustat_rules.proofs.catalog.places_of_types.Given as goal

abbrev pub invariant-loop-t : goal.invariant-loop-t
invariant-loop-t l = map (λ n. n.now) l.names.items ≡ type_spellings (take l.t-index l.types)
