use Rattle.std.proofs.Common.{map, take, Contains}
use Rattle.lustat_rules.specs.ClockRefs.{the_pattern}
use Rattle.lustat_init.specs.Beginnings.{begun_view}
use Rattle.lustat_init.proofs.begun.BeginningTable.has_among.Given as goal

abbrev pub invariant-loop-b : goal.invariant-loop-b
invariant-loop-b l = ¬ Contains (map begun_view (take l.b-index l.self.all.items)) (record { name = l.name; pattern = the_pattern l.pattern })
