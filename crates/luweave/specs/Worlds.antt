-- A world of sites: how many items each has done. What each turn does is `turn` and `step` of the scripts'
-- system.
use Rattle.std.specs.Prelude.{◌≡◌, ◌⊎◌, ℕ, ◌+◌, ◌-◌, ◌<◌, ◌≤◌, Bool, false, nat_lt, List, [], ◌∷◌, ◌++◌}
use Rattle.std.specs.Prelude.{length, map, Option, Some, None, slice_get, slice_set, take, vec_capacity}
use Rattle.luworld.specs.declared.turn.Turn.TheVariants.{Moved}
use Rattle.luworld.specs.Systems.{done, put_count, taken_count, turn, run, reached, NoTurnMoves, total_below}
use Rattle.luworld.specs.Reach.{IsGood}
use Rattle.luworld.specs.Needs.{PlanView, sites_of}
use Rattle.luflow.specs.declared.message.Msg.{Msg}
use Rattle.luflow.specs.declared.data.Status.{Status}
use Rattle.luweave.specs.declared.link_queue.LinkQueue.{LinkQueue}
use Rattle.luworld.specs.Outline.{left}
use Rattle.luworld.specs.Jobs.{JobView, outline, streams_of, system_of, script, HasNoStop, link_list, NoFault}
use Rattle.luworld.specs.Jobs.{IsJob}
use Rattle.lusite.specs.Logs.{IsOutput}
use Rattle.luworld.specs.WorldViews.{AllEnded}
use Rattle.lusite.specs.Sites.{SiteView}

-- what a queue holds after so many puts and takes: a prefix of the link's list
pub record IsLinkQueueAt (job : JobView) (l : ℕ) (link_queue : LinkQueue) (puts takes : ℕ) : Type 0 where
  pub put_is : link_queue.put.items ≡ take puts (link_list job (streams_of job) l)
  pub put_len : length link_queue.put.items ≡ puts
  pub taken_is : link_queue.taken ≡ takes
  pub room : length (link_list job (streams_of job) l) ≤ vec_capacity link_queue.put

abbrev pub IsLinkQueue : JobView → List ℕ → ℕ → LinkQueue → Type 0
IsLinkQueue job dones l link_queue = IsLinkQueueAt job l link_queue (put_count (system_of job) dones l)
    (taken_count (system_of job) dones l)

abbrev pub more : SiteView → SiteView
more v = record v { done = v.done + 1 }

-- the numbers of done items of a world
abbrev pub dones_of : List SiteView → List ℕ
dones_of sites = map (λ (v : SiteView). v.done) sites

pub record IsWorld (job : JobView) (sites : List SiteView) (link_queues : List LinkQueue)
    (capacity : ℕ) : Type 0 where
  pub is_job : IsJob job
  pub capacity_is : capacity ≡ job.plan.capacity
  pub sites_are : (s : ℕ) (v : SiteView) → slice_get sites s ≡ Some v → (v.job ≡ job) × (v.site ≡ s)
  pub link_queues_len : length link_queues ≡ length job.plan.links
  pub link_queues_are : (l : ℕ) (link_queue : LinkQueue) → slice_get link_queues l ≡ Some link_queue
      → IsLinkQueue job (dones_of sites) l link_queue
  pub good : IsGood (system_of job) (dones_of sites)

-- what a put and a take do to the queues
pub record IsPutInto (link_queues : List LinkQueue) (l : ℕ) (x : LinkQueue) (msg : Msg)
    (link_queues' : List LinkQueue) : Type 0 where
  pub link_queue : LinkQueue
  pub is : link_queues' ≡ slice_set link_queues l link_queue
  pub items : link_queue.put.items ≡ x.put.items ++ msg ∷ []
  pub taken : link_queue.taken ≡ x.taken
  pub capacity : vec_capacity link_queue.put ≡ vec_capacity x.put

pub record IsTakeFrom (link_queues : List LinkQueue) (l : ℕ) (x : LinkQueue) (msg : Msg)
    (link_queues' : List LinkQueue) : Type 0 where
  pub link_queue : LinkQueue
  pub is : link_queues' ≡ slice_set link_queues l link_queue
  pub item : slice_get x.put.items x.taken ≡ Some msg
  pub put : link_queue.put ≡ x.put
  pub taken : link_queue.taken ≡ x.taken + 1

abbrev pub room_of : ℕ → Option LinkQueue → Bool
room_of capacity None = false
room_of capacity (Some x) = nat_lt (length x.put.items - x.taken) capacity

abbrev pub room_in : List LinkQueue → ℕ → ℕ → Bool
room_in link_queues l capacity = room_of capacity (slice_get link_queues l)

abbrev pub some_of : Option LinkQueue → Bool
some_of None = false
some_of (Some x) = nat_lt x.taken (length x.put.items)

abbrev pub some_in : List LinkQueue → ℕ → Bool
some_in link_queues l = some_of (slice_get link_queues l)

-- a site and a queue before any turn
pub record IsNewSite (job : JobView) (s : ℕ) (v : SiteView) : Type 0 where
  pub job_is : v.job ≡ job
  pub site_is : v.site ≡ s
  pub done_is : v.done ≡ 0

pub record IsNewLinkQueue (instants : ℕ) (x : LinkQueue) : Type 0 where
  pub put_is : x.put.items ≡ []
  pub taken_is : x.taken ≡ 0
  pub room : instants + 1 ≤ vec_capacity x.put

-- new sites of one job of this plan, each once and in order
pub record IsNewWorld (plan : PlanView) (sites : List SiteView) : Type 0 where
  pub job : JobView
  pub some : 0 < length sites
  pub plan_is : plan ≡ job.plan
  pub len : length sites ≡ sites_of plan
  pub each : (s : ℕ) (v : SiteView) → slice_get sites s ≡ Some v → IsNewSite job s v

-- without a fault all sites have ended or some turn moves
abbrev pub IsUnstuck : JobView → List ℕ → Type 0
IsUnstuck job dones = NoFault job → AllEnded job dones ⊎ ((s : ℕ) × (turn (system_of job) dones s ≡ Moved))

-- where no turn moves any more, every schedule that goes on until none does ends here
abbrev pub IsOnlyEnd : JobView → List ℕ → Type 0
IsOnlyEnd job dones = (schedule : List ℕ) → NoTurnMoves (system_of job) dones → NoTurnMoves (system_of job)
    (reached (system_of job) schedule) → reached (system_of job) schedule ≡ dones

-- how many items of the scripts aren't done
abbrev pub undone : JobView → List ℕ → ℕ
undone job dones = total_below (λ s. length (script job (streams_of job) s) - done dones s)
    (sites_of job.plan)

-- how many items are left, if every flow not yet passed were present; none of a site that has faulted
abbrev pub left_of : JobView → List ℕ → ℕ
left_of job dones = left (outline job (streams_of job)) dones

-- a world some turns later
abbrev pub IsLater : JobView → List ℕ → List ℕ → Type 0
IsLater job dones later = (turns : List ℕ) × (run (system_of job) dones turns ≡ later)

-- a site has done its whole script, and no stop is in it
abbrev pub IsDone : SiteView → Type 0
IsDone v = (v.done ≡ length (script v.job (streams_of v.job) v.site)) × HasNoStop v.job v.site

-- what one of the sites reports of output k, or nothing where none reports anything
abbrev pub ReportsAt : List SiteView → ℕ → List Status → ℕ → Type 0
ReportsAt sites k xs s = (v : SiteView) → slice_get sites s ≡ Some v → IsOutput v.job v.site v.done k xs

pub data IsReportedAtSome (sites : List SiteView) (k : ℕ) (xs : List Status) : Type 0 where
  OneReports : (s : ℕ) → s < length sites → 0 < length xs → ReportsAt sites k xs s
      → IsReportedAtSome sites k xs
  NoneReports : xs ≡ [] → ((s : ℕ) → s < length sites → ReportsAt sites k [] s) → IsReportedAtSome sites k xs
