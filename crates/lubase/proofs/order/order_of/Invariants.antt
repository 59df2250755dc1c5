use Rattle.std.proofs.Common.{◌≡◌, ℕ, ◌<◌, []}
use Rattle.lubase.specs.Search.{Has, IsSearch}
use Rattle.lubase.proofs.order.order_of.Given as goal

abbrev pub invariant-loop-start : goal.invariant-loop-start
invariant-loop-start l =
    record {
      sound : IsSearch l.graph l.search.entered.items l.search.placed.items l.search.path.items l.search.order.items;
      empty : l.search.path.items ≡ [];
      entered : (v : ℕ) → v < l.start → Has l.search.entered.items v;
    }
