use Rattle.std.proofs.Common.{◌≡◌, ◌++◌, map}
use Rattle.std.specs.Prelude.{slice_get}
use Rattle.std.specs.List.{range_with_len}
use Rattle.luplace_report.specs.Table.{cells_of, link_cells}
use Rattle.luplace_report.proofs.table.put_links.Given as goal

abbrev pub invariant-loop-number : goal.invariant-loop-number
invariant-loop-number l = l.rows.items ≡ l.initial.rows.items ++ map (λ n. cells_of (link_cells l.plan n) (slice_get l.plan.links n)) (range_with_len 0 l.number)
