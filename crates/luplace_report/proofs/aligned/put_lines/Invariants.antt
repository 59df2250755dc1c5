use Rattle.std.proofs.Common.{◌≡◌, ◌++◌, take, string_bytes}
use Rattle.luplace_report.specs.Aligned.{lines}
use Rattle.luplace_report.proofs.aligned.put_lines.Given as goal

abbrev pub invariant-loop-row : goal.invariant-loop-row
invariant-loop-row l = string_bytes l.text ≡ string_bytes l.initial.text ++ lines l.widths (take l.row-index l.rows)
