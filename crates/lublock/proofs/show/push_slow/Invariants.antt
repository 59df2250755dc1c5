use Rattle.std.proofs.Common.{◌≡◌, ◌≤◌}
use Rattle.lublock.specs.Shown.{IsAdded, seen_in, slow_at}
use Rattle.lublock.proofs.show.push_slow.Given as goal

abbrev pub invariant-loop-n : goal.invariant-loop-n
invariant-loop-n l = record {
  count : l.tick ≡ seen_in l.of l.value l.t l.n;
  few : l.tick ≤ l.n;
  added : IsAdded l.fn.column.items l.column.items l.n (slow_at l.kind l.row l.of l.value l.t);
}
