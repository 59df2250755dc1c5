use Rattle.std.proofs.Common.{◌≡◌, length, take}
use Rattle.lubase.specs.ReachStates.{HasRows}
use Rattle.lubase.proofs.link.rows_of.Given as goal

abbrev pub invariant-loop-link : goal.invariant-loop-link
invariant-loop-link l = record {
  long : length l.rows.items ≡ l.size;
  linked : HasRows l.rows.items (take l.link-index l.links);
}
