-- How much of a grid has the solution's marks.
use Rattle.std.specs.Prelude.{◌≡◌, ℕ, ◌<◌, ◌≤◌, slice_index}
use Rattle.lubase.specs.Limits.{most_instants}
use Rattle.luflow.specs.Program.{FlatView, InputsView, flows_of}
use Rattle.luflow.specs.Solution.{solution}
use Rattle.luworld.specs.Jobs.{JobView}
use Rattle.test_reference.specs.declared.grid.Grid.{Grid}
use Rattle.test_reference.specs.Grids.{held}

-- all marks before instant t
pub record IsFilled (flat : FlatView) (inputs : InputsView) (grid : Grid) (t : ℕ) : Type 0 where
  pub width : grid.width ≡ flows_of flat
  pub past : (i u : ℕ) → i < flows_of flat → u < t → held grid i u ≡ solution flat inputs i u

-- all marks before instant t, and those of the first q ranks at t
pub record IsFilledTo (flat : FlatView) (inputs : InputsView) (grid : Grid) (t q : ℕ) : Type 0 where
  pub filled : IsFilled flat inputs grid t
  pub now : (k : ℕ) → k < q → held grid (slice_index flat.order k) t ≡ solution flat inputs
      (slice_index flat.order k) t

-- a job's grid: all marks at the instants of its table
pub record IsWhole (job : JobView) (grid : Grid) : Type 0 where
  pub filled : IsFilled job.plan.flat job.inputs grid job.inputs.instants
  pub sized : grid.instants ≡ job.inputs.instants
  pub few : job.inputs.instants ≤ most_instants
