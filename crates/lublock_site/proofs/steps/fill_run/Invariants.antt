use Rattle.std.proofs.Common.{◌≡◌, ◌≤◌, length, vec_capacity}
use Rattle.lublock_site.specs.Steps.{AreMessagesOf}
use Rattle.lublock_site.proofs.steps.fill_run.Given as goal

abbrev pub invariant-loop-k : goal.invariant-loop-k
invariant-loop-k l = record {
  filled : AreMessagesOf l.kind l.row l.tick l.number l.run.items;
  long : length l.run.items ≡ l.k;
  room : l.count ≤ vec_capacity l.run;
}
