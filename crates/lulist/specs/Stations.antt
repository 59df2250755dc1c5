-- The main outputs of a station that has ended.
use Rattle.std.specs.Prelude.{◌≡◌, ℕ, List, [], length, Option, Some, None, slice_get}
use Rattle.lusite_program.specs.Logs.{Log}

-- a row of this output: the log of its flow where it has a number, else an empty one
abbrev pub IsOutputRow : List ℕ → List Log → Option ℕ → Log → Type 0
IsOutputRow noted logs (Some k) row = (n : ℕ) × (slice_get noted n ≡ Some k) × (slice_get logs n ≡ Some row)
IsOutputRow noted logs None row = row.items ≡ []

-- a row for each output
pub record AreOutputRows (reported : List (Option ℕ)) (noted : List ℕ) (logs rows : List Log) : Type 0 where
  pub len : length rows ≡ length reported
  pub each : (m : ℕ) (o : Option ℕ) (row : Log) → slice_get reported m ≡ Some o → slice_get rows m ≡ Some row
      → IsOutputRow noted logs o row
