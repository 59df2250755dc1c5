use Rattle.std.proofs.Common.{◌≡◌, ◌+◌}
use Rattle.std.specs.String.{string_bytes}
use Rattle.luflow.specs.Tables.{outputs_view}
use Rattle.lutab.specs.Outputs.{lines_text}
use Rattle.lutab.proofs.writing.put_rows.Given as goal

abbrev pub invariant-loop-k : goal.invariant-loop-k
invariant-loop-k l = string_bytes l.out ≡ lines_text l.types l.kinds (outputs_view l.outputs) (l.from + l.k)
