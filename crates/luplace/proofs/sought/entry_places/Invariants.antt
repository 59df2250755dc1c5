use Rattle.std.proofs.Common.{◌≡◌, ◌≤◌, length, map, take}
use Rattle.std.specs.Prelude.{vec_capacity}
use Rattle.luplace.specs.Placing.{entry_names}
use Rattle.luplace.proofs.sought.entry_places.Given as goal

abbrev pub invariant-loop-entry : goal.invariant-loop-entry
invariant-loop-entry l = record {
  made : map (λ n. n.now) l.names.items ≡ entry_names (take l.entry-index l.entries);
  room : length l.entries ≤ vec_capacity l.names;
  len : length l.names.items ≡ l.entry-index;
}
