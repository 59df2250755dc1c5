use Rattle.std.proofs.Common.{◌≡◌, ℕ, ◌<◌, ◌≤◌, length, Some, slice_get}
use Rattle.std.specs.Prelude.{vec_capacity}
use Rattle.lusite_program.specs.Logs.{Log, IsNewRow}
use Rattle.lusite_program.specs.Programs.{part_of, places_of}
use Rattle.lusite_program.proofs.held.new_logs.Given as goal

abbrev pub invariant-loop-k : goal.invariant-loop-k
invariant-loop-k l = record {
  len : length l.logs.items ≡ l.k;
  each : (k i : ℕ) (y : Log) → k < l.k → slice_get (places_of l.program.plan l.program.site) k ≡ Some i → slice_get l.logs.items k ≡ Some y → IsNewRow (part_of l.program.plan l.program.site i).reported l.instants y;
  room : length l.site_flows ≤ vec_capacity l.logs;
}
