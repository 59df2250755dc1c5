use Rattle.std.proofs.Common.{◌≡◌, ◌≤◌, ℕ, [], Some, length}
use Rattle.std.specs.Prelude.{slice_get, vec_capacity}
use Rattle.lusite_program.specs.Logs.{Log}
use Rattle.lulist.proofs.start.logs_of.Given as goal

abbrev pub invariant-loop-n : goal.invariant-loop-n
invariant-loop-n l = record {
  room : l.count ≤ vec_capacity l.logs;
  len : length l.logs.items ≡ l._n;
  each : (n : ℕ) (row : Log) → slice_get l.logs.items n ≡ Some row → (row.items ≡ []) × (l.instants ≤ vec_capacity row);
}
