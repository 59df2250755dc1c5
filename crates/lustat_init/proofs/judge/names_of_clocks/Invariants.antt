use Rattle.std.proofs.Common.{◌≡◌, ◌++◌, drop}
use Rattle.lustat_rules.specs.Lent.{lent_view}
use Rattle.lustat_init.specs.Judged.{spelled, clock_names}
use Rattle.lustat_init.proofs.judge.names_of_clocks.Given as goal

abbrev pub invariant-loop-d : goal.invariant-loop-d
invariant-loop-d l = spelled l.names.items ++ clock_names (lent_view (drop l.d-index l.declarations)) ≡ clock_names (lent_view l.declarations)
