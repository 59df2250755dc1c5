use Rattle.std.proofs.Common.{◌≡◌, ◌++◌, length}
use Rattle.luflow.specs.Tables.{outputs_view}
use Rattle.lueval_lines.specs.Columns.{lists_of}
use Rattle.lueval_lines.specs.Outputs.{outputs_in}
use Rattle.lueval_lines.proofs.Reported.{From}
use Rattle.lueval_lines.proofs.outputs.taken_outputs.Given as goal

-- those so far, and those of the variables that are left, whose columns are as they were
abbrev pub invariant-loop-v : goal.invariant-loop-v
invariant-loop-v l = record {
  so_far : outputs_view l.outputs.items ++ From l.variables l.left.items l.v ≡ outputs_in l.variables (lists_of l.fn.columns.items);
  len : length l.left.items ≡ length l.fn.columns.items;
}
