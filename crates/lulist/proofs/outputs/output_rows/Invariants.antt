use Rattle.std.proofs.Common.{◌≡◌, ◌≤◌, ◌+◌, ℕ, Some, length}
use Rattle.std.specs.Prelude.{slice_get, vec_capacity}
use Rattle.std.specs.Vec.Iter.{into_iter_items}
use Rattle.lusite_program.specs.Logs.{Log}
use Rattle.lulist.proofs.Told.{EachRow}
use Rattle.lulist.proofs.outputs.output_rows.Given as goal

abbrev pub invariant-loop-number : goal.invariant-loop-number
invariant-loop-number l = record {
  len : length l.rows.items ≡ l.number-index;
  room : length l.reported ≤ vec_capacity l.rows;
  few : l.n ≤ l.number-index;
  rows : EachRow l.reported l.noted l.fn.logs.items l.rows.items;
  rest : (j : ℕ) (row : Log) → slice_get (into_iter_items l.left) j ≡ Some row → slice_get l.fn.logs.items (l.n + j) ≡ Some row;
}
