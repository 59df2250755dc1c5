use Rattle.std.proofs.Common.{◌≡◌, ◌++◌, flat_map, string_bytes}
use Rattle.std.specs.List.{range_with_len}
use Rattle.luplace_report.specs.Idle.{idle_row}
use Rattle.luplace_report.proofs.idle.put_rows.Given as goal

abbrev pub invariant-loop-site : goal.invariant-loop-site
invariant-loop-site l = string_bytes l.text ≡ string_bytes l.initial.text ++ flat_map (idle_row l.path l.plan) (range_with_len 0 l.site)
