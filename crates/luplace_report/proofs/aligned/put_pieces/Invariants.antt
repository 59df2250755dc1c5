use Rattle.std.proofs.Common.{◌≡◌, ◌++◌, flat_map, string_bytes}
use Rattle.std.specs.List.{range_with_len}
use Rattle.luplace_report.specs.Aligned.{piece}
use Rattle.luplace_report.proofs.aligned.put_pieces.Given as goal

abbrev pub invariant-loop-column : goal.invariant-loop-column
invariant-loop-column l = string_bytes l.text ≡ string_bytes l.initial.text ++ flat_map (piece l.widths l.row) (range_with_len 0 l.column)
