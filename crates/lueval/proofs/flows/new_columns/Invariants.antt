use Rattle.std.proofs.Common.{◌≡◌, ◌<◌, ℕ, length, Some, slice_get, slice_index}
use Rattle.lueval_lines.specs.Columns.{Column, IsEmpty}
use Rattle.lueval.proofs.flows.new_columns.Given as goal

abbrev pub invariant-loop-k : goal.invariant-loop-k
invariant-loop-k l = record {
  len : length l.columns.items ≡ l.count;
  done : (j : ℕ) (column : Column) → j < l.k → slice_get l.columns.items (slice_index l.kept j) ≡ Some column → IsEmpty l.instants column;
}
