-- The laws of the model, over every system and every schedule.
use Rattle.std.specs.Prelude.{◌≡◌, ◌≢◌, ◌↔◌, ℕ, suc, ◌+◌, ◌<◌, ◌≤◌, List, length, slice_get, Some}
use Rattle.std.specs.Prelude.{MatchOption, cond}
use Rattle.luworld.specs.Systems.{Item, Puts, Takes, System, IsWired, ItemCounts, done, puts_before}
use Rattle.luworld.specs.Systems.{takes_before, put_count, taken_count, turn, step, reached, moved_turns}
use Rattle.luworld.specs.Systems.{NoTurnMoves, next_item, puts, takes, enabled_below, item_count, IsAllDone}
use Rattle.luworld.specs.declared.turn.Turn.TheVariants.{Moved}
use Rattle.luworld.specs.Reach.{IsReachable}

-- taken is at most put, and put is at most taken and the capacity
abbrev pub CountsLaw : Type 0
CountsLaw = (sys : System) → IsWired sys → (schedule : List ℕ) (link : ℕ)
    → (taken_count sys (reached sys schedule) link ≤ put_count sys (reached sys schedule) link)
    × (put_count sys (reached sys schedule) link ≤ taken_count sys (reached sys schedule) link + sys.capacity)

-- a turn that moves adds one to its site's number and nothing else; another changes nothing
pub record TurnIs (sys : System) (world : ItemCounts) (site : ℕ) : Type 0 where
  pub moved : turn sys world site ≡ Moved → (done (step sys world site) site ≡ suc (done world site))
      × (done (step sys world site) site ≤ length (sys.script site))
  pub others : (other : ℕ) → other ≢ site → done (step sys world site) other ≡ done world other
  pub not_moved : turn sys world site ≢ Moved → step sys world site ≡ world

abbrev pub TurnLaw : Type 0
TurnLaw = (sys : System) → IsWired sys → (schedule : List ℕ) (site : ℕ)
    → TurnIs sys (reached sys schedule) site

-- the done items are reachable ones; no turn moves exactly where they are all of them; all such worlds are
-- one
abbrev pub ReachableLaw : Type 0
ReachableLaw = (sys : System) → IsWired sys → (schedule : List ℕ) (site place : ℕ)
    → place < done (reached sys schedule) site → IsReachable sys site place

abbrev pub QuietLaw : Type 0
QuietLaw = (sys : System) → IsWired sys → (schedule : List ℕ)
    → NoTurnMoves sys (reached sys schedule) ↔ ((site place : ℕ) → IsReachable sys site place
    → place < done (reached sys schedule) site)

abbrev pub SameEndLaw : Type 0
SameEndLaw = (sys : System) → IsWired sys → (one other : List ℕ)
    → NoTurnMoves sys (reached sys one) → NoTurnMoves sys (reached sys other)
    → reached sys one ≡ reached sys other

-- the moving turns are the done items, and never more than all items
abbrev pub MovesLaw : Type 0
MovesLaw = (sys : System) → IsWired sys → (schedule : List ℕ)
    → (moved_turns sys schedule ≤ item_count sys) × ((moved_turns sys schedule ≡ item_count sys)
    ↔ IsAllDone sys (reached sys schedule))

-- the enabled site is the least whose turn moves, and there is none exactly where no turn moves
abbrev pub EnabledLaw : Type 0
EnabledLaw = (sys : System) → IsWired sys → (world : ItemCounts)
    → MatchOption (enabled_below sys world sys.sites) (NoTurnMoves sys world)
    (λ site. (turn sys world site ≡ Moved) × ((earlier : ℕ) → earlier < site
    → turn sys world earlier ≢ Moved))

-- the puts that were done on a link are those of the numbers below its count, one for each, in order;
-- likewise the takes
pub record NumbersAre (sys : System) (world : ItemCounts) (link : ℕ) : Type 0 where
  pub each_put : (number : ℕ) → number < put_count sys world link
      → (place : ℕ) × (place < done world (sys.sender link))
      × (slice_get (sys.script (sys.sender link)) place ≡ Some (Puts link))
      × (puts_before sys link (sys.sender link) place ≡ number)
  pub puts_in_order : (place later : ℕ) → slice_get (sys.script (sys.sender link)) place ≡ Some (Puts link)
      → place < later → puts_before sys link (sys.sender link) place < puts_before sys link
      (sys.sender link) later
  pub each_take : (number : ℕ) → number < taken_count sys world link
      → (place : ℕ) × (place < done world (sys.receiver link))
      × (slice_get (sys.script (sys.receiver link)) place ≡ Some (Takes link))
      × (takes_before sys link (sys.receiver link) place ≡ number)
  pub takes_in_order : (place later : ℕ) → slice_get (sys.script (sys.receiver link)) place ≡ Some
      (Takes link) → place < later → takes_before sys link (sys.receiver link) place < takes_before sys link
      (sys.receiver link) later

abbrev pub NumbersLaw : Type 0
NumbersLaw = (sys : System) (world : ItemCounts) (link : ℕ) → NumbersAre sys world link

-- a turn that moves adds one to the count of its item's link, and to no other
abbrev pub StepCountsLaw : Type 0
StepCountsLaw = (sys : System) → IsWired sys → (schedule : List ℕ) (site : ℕ)
    → turn sys (reached sys schedule) site ≡ Moved
    → (item : Item) × (next_item sys (reached sys schedule) site ≡ Some item)
    × ((link : ℕ)
    → (put_count sys (step sys (reached sys schedule) site) link ≡ put_count sys
    (reached sys schedule) link + cond (puts link item) 1 0)
    × (taken_count sys (step sys (reached sys schedule) site) link ≡ taken_count sys
    (reached sys schedule) link + cond (takes link item) 1 0))
