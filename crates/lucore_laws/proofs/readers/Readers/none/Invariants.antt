use Rattle.std.proofs.Common.{◌≡◌, ℕ, length, []}
use Rattle.luflow.specs.Rank.{row}
use Rattle.lucore_laws.proofs.Reading.{lists_of}
use Rattle.lucore_laws.proofs.readers.Readers.none.Given as goal

abbrev pub invariant-loop-room : goal.invariant-loop-room
invariant-loop-room l = record {
  long : length l.lists.items ≡ l.room-index;
  empty : (x : ℕ) → row (lists_of l.lists.items) x ≡ [];
}
