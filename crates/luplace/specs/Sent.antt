-- The flows that are sent and may be nil, and numbers that marks name.
use Rattle.std.specs.Prelude.{◌≡◌, ◌<◌, ◌+◌, ℕ, Bool, true, false, List, length, Some, slice_get}
use Rattle.std.specs.Prelude.{slice_index_or}
use Rattle.std.specs.List.{filter, range_with_len}
use Rattle.luflow.specs.Program.{flows_of}
use Rattle.luworld.specs.declared.link.Link.{Link}
use Rattle.luworld.specs.Needs.{PlanView}
use Rattle.luplace.specs.Classes.{class_in}
use Rattle.luplace.specs.Ways.{IsSent}

-- the numbers below a count of which the marks from a place on say
abbrev pub marked : List Bool → ℕ → ℕ → List ℕ
marked marks from count = filter (λ v. slice_index_or marks (from + v) false) (range_with_len 0 count)

-- The marks after so many links, by these classes.
pub record AreSentNils (plan : PlanView) (nils : List Bool) (count : ℕ) (marks : List Bool) : Type 0 where
  pub long : length marks ≡ flows_of plan.flat
  pub sent : (v : ℕ) → slice_index_or marks v false ≡ true → IsSent plan v
  pub nil : (v : ℕ) → slice_index_or marks v false ≡ true → class_in nils v ≡ true
  pub all : (l : ℕ) (link : Link) → l < count → slice_get plan.links l ≡ Some link
      → link.flow < flows_of plan.flat → class_in nils link.flow ≡ true
      → slice_index_or marks link.flow false ≡ true
