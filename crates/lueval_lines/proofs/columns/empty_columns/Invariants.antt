use Rattle.std.proofs.Common.{◌≡◌, ◌≤◌, length, []}
use Rattle.std.specs.Prelude.{All, vec_capacity}
use Rattle.lueval_lines.specs.Columns.{Column}
use Rattle.lueval_lines.proofs.columns.empty_columns.Given as goal

abbrev pub invariant-loop-v : goal.invariant-loop-v
invariant-loop-v l = record {
  len : length l.columns.items ≡ l._v;
  room : l.count ≤ vec_capacity l.columns;
  empty : All (λ (column : Column). column.items ≡ []) l.columns.items;
}
