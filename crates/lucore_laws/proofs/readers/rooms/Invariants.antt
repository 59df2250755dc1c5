use Rattle.std.proofs.Common.{◌≡◌, length}
use Rattle.lucore_laws.proofs.readers.rooms.Given as goal

abbrev pub invariant-loop-read : goal.invariant-loop-read
invariant-loop-read l = length l.rooms.items ≡ length l.rows

abbrev pub invariant-loop-reads : goal.invariant-loop-reads
invariant-loop-reads l = length l.rooms.items ≡ length l.rows
