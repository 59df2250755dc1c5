-- How far a run has come: what its links have carried, what waits in them, and what was reported of its
-- outputs.
use Rattle.std.specs.Prelude.{◌≡◌, ◌↔◌, ℕ, ◌<◌, ◌≤◌, cond, List, ◌++◌, length, map, take, drop, Some}
use Rattle.std.specs.Prelude.{slice_get, slice_index}
use Rattle.luflow.specs.declared.data.Status.{Status}
use Rattle.luflow.specs.declared.message.Msg.{Msg}
use Rattle.luflow.specs.Program.{flow_at}
use Rattle.luflow.specs.Solution.{clock_of_flow}
use Rattle.luflow.specs.Streams.{Known}
use Rattle.luflow.specs.Messages.{marks}
use Rattle.luworld.specs.Systems.{done, put_count, taken_count}
use Rattle.luworld.specs.Outline.{HasEnded}
use Rattle.luworld.specs.Needs.{sites_of, home}
use Rattle.luworld.specs.Jobs.{JobView, streams_of, system_of, outline, link_list, endless, items_before}
use Rattle.luworld.specs.Jobs.{is_open, IsFree, outputs_of}

-- a run, and how many items of its script each site has done
pub record WorldView : Type 0 where
  pub job : JobView
  pub dones : List ℕ

-- a prefix of a list
abbrev pub IsPrefixOf : {A : Type 0} → List A → List A → Type 0
IsPrefixOf {A} xs ys = (rest : List A) × (xs ++ rest ≡ ys)

-- the list of a link, what was taken from it, and what waits in it
abbrev pub list_of_link : WorldView → ℕ → List Msg
list_of_link w l = link_list w.job (streams_of w.job) l

abbrev pub taken_of : WorldView → ℕ → List Msg
taken_of w l = take (taken_count (system_of w.job) w.dones l) (list_of_link w l)

abbrev pub queued_of : WorldView → ℕ → List Msg
queued_of w l = drop (taken_count (system_of w.job) w.dones l) (take (put_count (system_of w.job) w.dones l)
    (list_of_link w l))

-- all sites have ended
abbrev pub AllEnded : JobView → List ℕ → Type 0
AllEnded job dones = (s : ℕ) → s < sites_of job.plan → HasEnded (outline job (streams_of job)) dones s

-- the statuses are the first m of flow i, and none of them is broken
abbrev pub IsFirst : JobView → ℕ → List Status → ℕ → Type 0
IsFirst job i xs m = map Known xs ≡ marks (streams_of job i) m

-- a prefix of flow i's statuses before its first broken one; all of them
abbrev pub IsBegun : JobView → ℕ → List Status → Type 0
IsBegun job i xs = (m : ℕ) × (m ≤ job.inputs.instants) × IsFirst job i xs m

abbrev pub IsWhole : JobView → ℕ → List Status → Type 0
IsWhole job i xs = IsFirst job i xs job.inputs.instants

-- one where the flow of rank p is present at instant t: a present status waits for its computation
abbrev pub lead : JobView → ℕ → ℕ → ℕ
lead job p t = cond (is_open (clock_of_flow job.inputs (streams_of job)
    (flow_at job.plan.flat (slice_index job.plan.flat.order p)) t)) 1 0

-- With n items done, site s has passed the flow of rank p at instant t: where it is present once its
-- computation is done, where it is absent once every item before it is, and nothing behind a stop.
pub record IsPassed (job : JobView) (s n p t : ℕ) : Type 0 where
  pub done : items_before job (streams_of job) s t p (lead job p t) ≤ n
  pub free : IsFree job (take (items_before job (streams_of job) s t p (lead job p t))
      (endless job (streams_of job) s))

-- as many statuses of flow i as site s has passed
abbrev pub AreAllPassed : JobView → ℕ → ℕ → ℕ → List Status → Type 0
AreAllPassed job s n i xs = (p t : ℕ) → slice_get job.plan.flat.order p ≡ Some i → t < job.inputs.instants
    → (t < length xs) ↔ IsPassed job s n p t

-- output k: a prefix of its statuses before its first broken one, as many as its home has passed, and all of
-- them where all sites have ended
abbrev pub IsCollected : JobView → List ℕ → ℕ → List Status → Type 0
IsCollected job dones k xs = (i : ℕ) → slice_get (outputs_of job.plan) k ≡ Some i → IsBegun job i xs
    × AreAllPassed job (home job.plan i) (done dones (home job.plan i)) i xs × (AllEnded job dones
    → IsWhole job i xs)
