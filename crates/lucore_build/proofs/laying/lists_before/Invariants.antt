use Rattle.std.proofs.Common.{◌≡◌, length}
use Rattle.lutree.specs.Tree.{program_view}
use Rattle.lucore_build.specs.Walks.{plain}
use Rattle.lucore_build.specs.Listed.{AreBuilt}
use Rattle.lucore_build.proofs.laying.lists_before.Given as goal

abbrev pub invariant-loop-number : goal.invariant-loop-number
invariant-loop-number l = record {
  long : length l.lists.items ≡ l.count;
  built : AreBuilt (program_view l.catalog) l.order l.marks l.number (plain l.lists.items);
}
