-- What is said of a graph.
use Rattle.std.specs.Prelude.{ℕ, List}
use Rattle.lubase.specs.declared.order.Order.{Order}
use Rattle.lubase.specs.declared.order.Order.TheVariants.{Sorted, Cyclic}

-- a fact of the order, if that is the answer
abbrev pub IfSorted : Order → (List ℕ → Type 0) → Type 0
IfSorted (Sorted order) P = P order.items
IfSorted (Cyclic v) P = Unit {0}

-- a fact of the vertex, if that is the answer
abbrev pub IfCyclic : Order → (ℕ → Type 0) → Type 0
IfCyclic (Sorted order) P = Unit {0}
IfCyclic (Cyclic v) P = P v
