use Rattle.std.proofs.Common.{◌≡◌, map, take}
use Rattle.lustat_init.specs.Beginnings.{spelled}
use Rattle.lustat_init.proofs.begun.names_of.Given as goal

abbrev pub invariant-loop-b : goal.invariant-loop-b
invariant-loop-b l = map (λ n. n.now) l.names.items ≡ spelled (take l.b-index l.all)
