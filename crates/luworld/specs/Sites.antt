-- One site of a plan or of a run, and what it leaves where it has done its whole part.
use Rattle.std.specs.Prelude.{◌≡◌, ℕ, ◌<◌, true, false, List, [], length, Some, slice_get}
use Rattle.luflow.specs.declared.data.Status.{Status}
use Rattle.luflow.specs.Program.{flows_of}
use Rattle.luflow.specs.Streams.{is_broken}
use Rattle.luworld.specs.Needs.{PlanView, sites_of, home}
use Rattle.luworld.specs.Jobs.{JobView, IsJobView, knows, outputs_of, streams_of}
use Rattle.luworld.specs.WorldViews.{IsWhole}

-- a site of a plan
pub record SiteOfPlan : Type 0 where
  pub plan : PlanView
  pub site : ℕ

-- a site of a run
pub record SiteOfJob : Type 0 where
  pub job : JobView
  pub site : ℕ

pub record IsSiteOfJob (x : SiteOfJob) : Type 0 where
  pub run : IsJobView x.job
  pub inside : x.site < sites_of x.job.plan

-- no flow that the site computes or takes breaks
abbrev pub IsSoundAt : JobView → ℕ → Type 0
IsSoundAt job s = (i t : ℕ) → knows job.plan s i ≡ true → i < flows_of job.plan.flat → t < job.inputs.instants
    → is_broken (streams_of job i t) ≡ false

-- of each output of the main node, in order: all its statuses where the site is its home, and none elsewhere
pub record AreWholeOutputs (job : JobView) (s : ℕ) (rows : List (List Status)) : Type 0 where
  pub len : length rows ≡ length (outputs_of job.plan)
  pub own : (k i : ℕ) (xs : List Status) → slice_get (outputs_of job.plan) k ≡ Some i
      → slice_get rows k ≡ Some xs → home job.plan i ≡ s → IsWhole job i xs
  pub elsewhere : (k i : ℕ) (xs : List Status) → slice_get (outputs_of job.plan) k ≡ Some i
      → slice_get rows k ≡ Some xs → (home job.plan i ≡ s → ⊥) → xs ≡ []
