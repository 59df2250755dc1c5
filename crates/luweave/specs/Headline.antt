-- What a world says of its source: for each synchronous solution of the program as it is written.
use Rattle.std.specs.Prelude.{◌≡◌, ℕ, ◌+◌, ◌<◌, ◌≤◌, ◌++◌, List, length, take, Some, slice_get}
use Rattle.luflow.specs.declared.data.Status.{Status}
use Rattle.lusource.specs.Source.{SourceStreams}
use Rattle.luworld.specs.Systems.{put_count, taken_count}
use Rattle.luworld.specs.Jobs.{JobView, system_of, outputs_of}
use Rattle.lusource.specs.RunSources.{IsMeant, source_list, AreStatuses, BeginStatuses, NoneBreaks}
use Rattle.luflow.specs.declared.message.Msg.{Msg}
use Rattle.luworld.specs.WorldViews.{WorldView, AllEnded, IsPrefixOf, IsCollected, taken_of}

-- what each synchronous solution of a run's source says
abbrev pub InEachSource : JobView → (SourceStreams → Type 0) → Type 0
InEachSource job P = (σ : SourceStreams) → IsMeant job σ → P σ

-- In a solution of the source: what was taken from a link, and then what waits in it, are a prefix of its
-- list.
abbrev pub WaitsNext : WorldView → ℕ → List Msg → SourceStreams → Type 0
WaitsNext w l waiting σ = IsPrefixOf (take (taken_count (system_of w.job) w.dones l) (source_list w.job σ l)
    ++ waiting) (source_list w.job σ l)

-- output k: a prefix of its variable's statuses, and all of them where all sites have ended
abbrev pub IsCollectedOf : JobView → List ℕ → SourceStreams → ℕ → List Status → Type 0
IsCollectedOf job dones σ k xs = (v : ℕ) → slice_get (outputs_of job.plan) k ≡ Some v
    → BeginStatuses job σ v xs × (AllEnded job dones → AreStatuses job σ v xs)

-- how far a link is: no message more than its list has, and no more waiting than the capacity
pub record IsWithin (job : JobView) (dones : List ℕ) (σ : SourceStreams) (l : ℕ) : Type 0 where
  pub put : put_count (system_of job) dones l ≤ length (source_list job σ l)
  pub taken : taken_count (system_of job) dones l ≤ put_count (system_of job) dones l
  pub waiting : put_count (system_of job) dones l ≤ taken_count (system_of job) dones l + job.plan.capacity
  pub ended : AllEnded job dones → taken_count (system_of job) dones l ≡ length (source_list job σ l)

-- What was taken from link l is a prefix of its list in a solution of the source, each message once and in
-- order; and all of it where all sites have ended.
pub record IsTakenOf (job : JobView) (dones : List ℕ) (σ : SourceStreams) (l : ℕ) : Type 0 where
  pub begun : IsPrefixOf (taken_of (record { job = job; dones = dones }) l) (source_list job σ l)
  pub ended : AllEnded job dones → taken_of (record { job = job; dones = dones }) l ≡ source_list job σ l

-- In each solution of the source every link is within its list, what was taken from it is a prefix of the
-- list, and what is collected of an output is a prefix of its statuses; where all sites have ended both are
-- whole, and no main variable breaks.
pub record IsFaithful (job : JobView) (dones : List ℕ) : Type 0 where
  pub links : (σ : SourceStreams) (l : ℕ) → IsMeant job σ → l < length job.plan.links → IsWithin job dones σ l
  pub taken : (σ : SourceStreams) (l : ℕ) → IsMeant job σ → l < length job.plan.links
      → IsTakenOf job dones σ l
  pub outputs : (σ : SourceStreams) (k : ℕ) (xs : List Status) → IsMeant job σ → IsCollected job dones k xs
      → IsCollectedOf job dones σ k xs
  pub sound : (σ : SourceStreams) → IsMeant job σ → AllEnded job dones → NoneBreaks job σ
