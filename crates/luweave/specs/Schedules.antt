-- What holds of a run, whatever the schedule: which items its turns reach, and how many turns move.
use Rattle.std.specs.Prelude.{◌≡◌, ◌↔◌, ℕ, ◌+◌, ◌*◌, ◌<◌, ◌≤◌, List, length, sum}
use Rattle.luworld.specs.Systems.{done, NoTurnMoves, IsAllDone, item_count, moved_turns, reached, total_below}
use Rattle.luworld.specs.Reach.{IsReachable}
use Rattle.luworld.specs.Outline.{status_count}
use Rattle.luworld.specs.Jobs.{JobView, NoFault, outline, streams_of, system_of, script, endless, link_list}
use Rattle.luworld.specs.WorldViews.{AllEnded}

-- the items done are reachable ones, and no turn moves exactly where they are all of them
pub record IsWithinReach (job : JobView) (dones : List ℕ) : Type 0 where
  pub reachable : (s place : ℕ) → place < done dones s → IsReachable (system_of job) s place
  pub quiet : NoTurnMoves (system_of job) dones ↔ ((s place : ℕ) → IsReachable (system_of job) s place
      → place < done dones s)

-- the messages of all links
abbrev pub message_count : JobView → ℕ
message_count job = total_below (λ l. length (link_list job (streams_of job) l)) (length job.plan.links)

-- the items of a run without a fault: each present status is computed at each site at which its flow stands,
-- and each message is put and taken
abbrev pub whole_count : JobView → ℕ
whole_count job = status_count (outline job (streams_of job)) + 2 * message_count job

-- no script is cut short, each of its items is reachable, and all scripts together have exactly these items
pub record AreWholeScripts (job : JobView) : Type 0 where
  pub uncut : (s : ℕ) → script job (streams_of job) s ≡ endless job (streams_of job) s
  pub reachable : (s place : ℕ) → place < length (script job (streams_of job) s)
      → IsReachable (system_of job) s place
  pub counted : item_count (system_of job) ≡ whole_count job

-- So many turns moved: as many as items are done, never more than the scripts have, and that many exactly
-- where all are done; without a fault as many as a whole run has exactly where all sites have ended.
pub record IsMoveCount (job : JobView) (dones : List ℕ) (moved : ℕ) : Type 0 where
  pub is : moved ≡ sum dones
  pub most : moved ≤ item_count (system_of job)
  pub all : (moved ≡ item_count (system_of job)) ↔ IsAllDone (system_of job) dones
  pub ended : NoFault job → (moved ≡ whole_count job) ↔ AllEnded job dones

-- the same after each schedule
abbrev pub EachMoveCount : JobView → Type 0
EachMoveCount job = (schedule : List ℕ)
    → IsMoveCount job (reached (system_of job) schedule) (moved_turns (system_of job) schedule)
