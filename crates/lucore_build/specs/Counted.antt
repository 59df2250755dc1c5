-- The sizes of a program's nodes, counted up to the most that a flat list may have and one more. A size can
-- double from node to node, so a size itself may be too large for any number of the machine; its count isn't.
use Rattle.std.specs.Prelude.{◌≡◌, ◌↔◌, ◌<◌, ℕ, min, Bool, IsTrue, List, map}
use Rattle.lubase.specs.Limits.{most_flows}
use Rattle.lutree.specs.declared.expr.Infix.{Infix}
use Rattle.lutree.specs.declared.expr.Infix.TheVariants.{Data, Arrow, FollowedBy}
use Rattle.lutree.specs.Tree.{ProgramTree}
use Rattle.luflow.specs.Program.{FlatView, flows_of}
use Rattle.lucore_laws.specs.Layout.{IsLaidOut}
use Rattle.lucore_laws.specs.Sizes.{AreSizes, size_of}

-- the lesser of a number and 4,097
abbrev pub capped : ℕ → ℕ
capped n = min n 4097

-- how many flows an operator makes between its operands and its own flow: `a fby b` makes `pre b`
abbrev pub further : Infix → ℕ
further (Data op) = 0
further Arrow = 0
further FollowedBy = 1

-- a count for each node, by its place in the text: its size, or 4,097 where it is more
abbrev pub AreCounted : ProgramTree → List ℕ → Type 0
AreCounted p counts = (sizes : List ℕ) × AreSizes p sizes × (counts ≡ map capped sizes)

-- a mark that is true exactly where the size of the main node is more than 4,096
abbrev pub IsTooLarge : ProgramTree → List ℕ → Bool → Type 0
IsTooLarge p main large =
    (sizes : List ℕ) × AreSizes p sizes × (IsTrue large ↔ (most_flows < size_of p sizes main))

-- a mark that is true exactly where the flat list has more than 4,096 flows
abbrev pub IsTooLong : ProgramTree → List ℕ → Bool → Type 0
IsTooLong p main large = (flat : FlatView) → IsLaidOut p main flat
    → (IsTrue large ↔ (most_flows < flows_of flat))
