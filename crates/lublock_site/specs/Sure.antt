-- Which flows of a block are sure: all their words are found, and so are those that they were found from.
use Rattle.std.specs.Prelude.{◌≡◌, ◌⊎◌, ℕ, ◌&&◌, Bool, true, List, [], Some, slice_get}
use Rattle.luflow.specs.declared.form.Flow.{Flow}
use Rattle.luflow.specs.Program.{FlatView, flow_at}
use Rattle.lublock_kernels.specs.declared.span.Span.{Span}
use Rattle.lublock_kernels.specs.Parts.{Part, IsPart, knows}
use Rattle.lublock.specs.Boards.{IsSettled}
use Rattle.lublock_site.specs.Marks.{marked, marked_part, PlacesKnown, ClockKnown}

-- the sure flows of a part
abbrev pub sure_part : List Bool → List Bool → List Bool → Part
sure_part own taken sure = record {
  own = λ i. marked own i && marked sure i;
  taken = λ i. marked taken i
      && marked sure i;
}

-- They are a part by themselves, and all their words are found.
pub record AreSure (flat : FlatView) (own taken : List Bool) (spans : List Span)
    (sure : List Bool) : Type 0 where
  pub closed : IsPart flat (sure_part own taken sure)
  pub settled : (i : ℕ) → marked sure i ≡ true → IsSettled spans i

-- some places more are marked, each one of these
pub record IsMarkedMore (old new : List Bool) (places : List ℕ) : Type 0 where
  pub kept : (i : ℕ) → marked old i ≡ true → marked new i ≡ true
  pub added : (i : ℕ) → marked new i ≡ true → (marked old i ≡ true)
      ⊎ ((k : ℕ) × (slice_get places k ≡ Some i))

-- what flow i reads is marked, if it is an own flow, and the variable of its clock
pub record ReadsSure (flat : FlatView) (own sure : List Bool) (i : ℕ) : Type 0 where
  pub operands : (flow : Flow) → flow_at flat i ≡ Some flow → marked own i ≡ true
      → PlacesKnown (knows (marked_part sure [])) flow.form
  pub clock : (flow : Flow) → flow_at flat i ≡ Some flow → ClockKnown (knows (marked_part sure [])) flow.clock
