use Rattle.std.proofs.Common.{◌≤◌}
use Rattle.lubase.specs.Grouped.{IsLeft, IsFlagged}
use Rattle.lubase.proofs.groups.mark_group.Given as goal

abbrev pub invariant-loop-place : goal.invariant-loop-place
invariant-loop-place l =
    record {
      left : IsLeft l.fn.left.items l.left.items l.stack l.from l.place;
      looped : IsFlagged l.graph l.fn.looped.items l.looped.items l.stack l.from l.place;
      above : l.from ≤ l.place;
    }
