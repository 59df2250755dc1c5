use Rattle.std.proofs.Common.{◌≡◌, ◌++◌, map, take}
use Rattle.lustat_rules.proofs.scope.push_all.Given as goal

abbrev pub invariant-loop-d : goal.invariant-loop-d
invariant-loop-d l = map (λ d. d.now) l.all.items ≡ map (λ d. d.now) l.initial.all.items ++ take l.d-index l.declarations
