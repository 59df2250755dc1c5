use Rattle.std.proofs.Common.{◌≡◌, drop}
use Rattle.lutree.specs.Tree.{views, trees_of}
use Rattle.lustat_warn.specs.Scans.{some_divides_within}
use Rattle.lustat_warn.proofs.dividing.+dividing.Given as goal

abbrev pub invariant-some_divides-loop-e : goal.invariant-some_divides-loop-e
invariant-some_divides-loop-e l = some_divides_within l.everywhere (trees_of (views (drop l.e-index l.all))) ≡ some_divides_within l.everywhere (trees_of (views l.all))
