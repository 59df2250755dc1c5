use Rattle.std.proofs.Common.{◌≡◌, ◌≤◌, ◌-◌, length}
use Rattle.std.specs.String.{string_bytes}
use Rattle.luflow.specs.Tables.{outputs_view}
use Rattle.lutab.specs.Outputs.{lines_text}
use Rattle.lutab.proofs.writing.write_lines.Given as goal

abbrev pub invariant-loop-from : goal.invariant-loop-from
invariant-loop-from l = (l.from ≤ l.instants) × (length l.cells.items ≡ length l.outputs) × (string_bytes l.out ≡ lines_text l.types l.kinds (outputs_view l.outputs) l.from)

abbrev pub decreases-loop-from : goal.decreases-loop-from
decreases-loop-from l = l.instants - l.from
