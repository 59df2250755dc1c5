use Rattle.std.proofs.Common.{◌≡◌, ◌++◌, map, drop}
use Rattle.lutree.specs.Tree.{equation_view}
use Rattle.lustat_init.specs.Beginnings.{begun_view, all_begun}
use Rattle.lustat_init.proofs.begun.beginnings_of.Given as goal

abbrev pub invariant-loop-q : goal.invariant-loop-q
invariant-loop-q l = map begun_view l.all.items ++ all_begun (map equation_view (drop l.q-index l.equations)) ≡ all_begun (map equation_view l.equations)
