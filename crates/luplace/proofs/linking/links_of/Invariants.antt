use Rattle.std.proofs.Common.{◌≡◌}
use Rattle.luplace.specs.Marks.{links_below}
use Rattle.luplace.proofs.linking.links_of.Given as goal

abbrev pub invariant-loop-variable : goal.invariant-loop-variable
invariant-loop-variable l = l.links.items ≡ links_below l.rows l.owners l.placed l.variable
