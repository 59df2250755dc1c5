use Rattle.std.proofs.Common.{map, take}
use Rattle.lustat_rules.specs.Scopes.{clock_list}
use Rattle.lustat_init.specs.Beginnings.{begun_view, IsBegun, AreMarked}
use Rattle.lustat_init.proofs.current.starts_of.Given as goal

abbrev pub invariant-loop-d : goal.invariant-loop-d
invariant-loop-d l = AreMarked (IsBegun (map begun_view l.table.all.items)) l.marks.items (clock_list (map (λ d. d.now) (take l.d-index l.declarations)))
