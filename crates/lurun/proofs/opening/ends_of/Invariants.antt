use Rattle.std.proofs.Common.{◌≤◌, length}
use Rattle.lurun.specs.Making.{AreAllEnds}
use Rattle.lurun.proofs.opening.ends_of.Given as goal

abbrev pub invariant-loop-l : goal.invariant-loop-l
invariant-loop-l l = record {
  le : l.l ≤ length l.job.plan.links;
  are : AreAllEnds l.job l.l l.all.items;
}
