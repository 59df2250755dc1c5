-- What is said of the calls of a program.
use Rattle.std.specs.Prelude.{ℕ, List}
use Rattle.lutype.specs.declared.order.CallOrder.{CallOrder}
use Rattle.lutype.specs.declared.order.CallOrder.TheVariants.{Sorted, Recursive}

-- a fact of the order, if that is the answer
abbrev pub IfSorted : CallOrder → (List ℕ → Type 0) → Type 0
IfSorted (Sorted order) P = P order.items
IfSorted (Recursive i) P = Unit {0}

-- a fact of the node's place, if that is the answer
abbrev pub IfRecursive : CallOrder → (ℕ → Type 0) → Type 0
IfRecursive (Sorted order) P = Unit {0}
IfRecursive (Recursive i) P = P i
