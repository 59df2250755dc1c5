use Rattle.std.proofs.Common.{◌≡◌, ◌++◌}
use Rattle.luplace.specs.Marks.{some_links}
use Rattle.luplace.proofs.linking.push_links.Given as goal

abbrev pub invariant-loop-site : goal.invariant-loop-site
invariant-loop-site l = l.links.items ≡ l.initial.links.items ++ some_links l.rows l.owners l.placed l.variable l.site
