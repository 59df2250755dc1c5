use Rattle.std.proofs.Common.{◌≡◌, ◌++◌, flat_map}
use Rattle.std.specs.List.{range_with_len}
use Rattle.luplace_report.specs.Cycles.{group_of, group_rows}
use Rattle.luplace_report.proofs.cycles.put_groups.Given as goal

abbrev pub invariant-loop-site : goal.invariant-loop-site
invariant-loop-site l = l.rows.items ≡ l.initial.rows.items ++ flat_map (λ s. group_rows l.names s (group_of l.count l.fed s)) (range_with_len 0 l.site)
