use Rattle.std.proofs.Common.{◌≡◌, ℕ, ◌<◌, ◌≤◌, false, length, get_or, take, vec_len, vec_capacity}
use Rattle.std.specs.List.{filter_map}
use Rattle.lusdist_shell.specs.Schedule.{turn_of, is_bad}
use Rattle.lusdist_shell.proofs.schedule.read_schedule.Given as goal

-- there is room for a turn a byte, the turns of the bytes so far were read, and no byte so far is bad
abbrev pub invariant-loop-byte : goal.invariant-loop-byte
invariant-loop-byte l = record {
  room : length l.text ≤ vec_capacity l.turns;
  few : vec_len l.turns ≤ l.byte;
  read : l.turns.items ≡ filter_map turn_of (take l.byte l.text);
  good : (k : ℕ) → k < l.byte → is_bad (get_or l.text k 0) ≡ false;
}
