use Rattle.std.proofs.Common.{◌≡◌, map}
use Rattle.std.specs.List.{range_with_len}
use Rattle.luplace_report.specs.Aligned.{width}
use Rattle.luplace_report.proofs.aligned.widths_of.Given as goal

abbrev pub invariant-loop-column : goal.invariant-loop-column
invariant-loop-column l = l.widths.items ≡ map (width l.rows) (range_with_len 0 l.column)
