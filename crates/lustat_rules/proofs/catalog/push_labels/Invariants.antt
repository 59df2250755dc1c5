use Rattle.std.proofs.Common.{◌≡◌, ◌++◌, map, take}
use Rattle.lustat_rules.specs.Scopes.{label_spellings}
use Rattle.lustat_rules.proofs.catalog.push_labels.Given as goal

abbrev pub invariant-loop-x : goal.invariant-loop-x
invariant-loop-x l = map (λ n. n.now) l.names.items ≡ map (λ n. n.now) l.initial.names.items ++ label_spellings (take l.x-index l.declared)
