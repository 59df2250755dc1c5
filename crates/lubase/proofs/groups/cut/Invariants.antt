use Rattle.std.proofs.Common.{ℕ, ◌≤◌, length, Contains}
use Rattle.lubase.specs.Grouped.{IsRising}
use Rattle.lubase.proofs.groups.cut.Given as goal

abbrev pub invariant-loop-last : goal.invariant-loop-last
invariant-loop-last l =
    record {
      rising : IsRising l.bounds.items;
      fewer : (b : ℕ) → Contains l.bounds.items b → Contains l.fn.bounds.items b;
      kept : (b : ℕ) → Contains l.fn.bounds.items b → b ≤ l.low → Contains l.bounds.items b;
    }

abbrev pub decreases-loop-last : goal.decreases-loop-last
decreases-loop-last l = length l.bounds.items
