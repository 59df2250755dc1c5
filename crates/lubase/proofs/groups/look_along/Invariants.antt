use Rattle.std.proofs.Common.{◌≤◌}
use Rattle.lubase.specs.Grouped.{IsLow, IsLooked}
use Rattle.lubase.proofs.groups.look_along.Given as goal

abbrev pub invariant-loop-k : goal.invariant-loop-k
invariant-loop-k l =
    record {
      least : l.low ≤ l.fn.frame.place;
      low : IsLow l.entered l.left l.places l.row l.fn.frame.place l.low;
      looked : IsLooked l.entered l.left l.places l.row l.fn.frame.next l.k l.low;
    }
