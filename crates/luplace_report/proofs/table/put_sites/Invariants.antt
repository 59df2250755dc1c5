use Rattle.std.proofs.Common.{◌≡◌, ◌++◌, map}
use Rattle.std.specs.List.{range_with_len}
use Rattle.luplace_report.specs.Table.{site_cells}
use Rattle.luplace_report.proofs.table.put_sites.Given as goal

abbrev pub invariant-loop-site : goal.invariant-loop-site
invariant-loop-site l = l.rows.items ≡ l.initial.rows.items ++ map (site_cells l.plan) (range_with_len 0 l.site)
