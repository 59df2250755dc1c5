use Rattle.lubase.specs.Search.{Has, IsSearch, Keeps, steps_left}
use Rattle.lubase.proofs.search.Search.explore.Given as goal

abbrev pub invariant-loop-visit : goal.invariant-loop-visit
invariant-loop-visit l =
    record {
      sound : IsSearch l.graph l.self.entered.items l.self.placed.items l.self.path.items l.self.order.items;
      kept : Keeps l.fn.self.entered.items l.self.entered.items;
      started : Has l.self.entered.items l.start;
    }

abbrev pub decreases-loop-visit : goal.decreases-loop-visit
decreases-loop-visit l = steps_left l.self.entered.items l.self.placed.items
