-- The laws of the systems that plans give.
use Rattle.std.specs.Prelude.{◌≡◌, ◌↔◌, ◌⊎◌, ℕ, ◌+◌, ◌*◌, ◌<◌, ◌≤◌, List, length, flat_map, slice_get, Some}
use Rattle.std.specs.Prelude.{true, false}
use Rattle.luworld.specs.Systems.{IsWired, ItemCounts, done, put_count, taken_count, turn, step, reached}
use Rattle.luworld.specs.Systems.{moved_turns, item_count, IsAllDone, total_below}
use Rattle.luworld.specs.declared.turn.Turn.TheVariants.{Moved}
use Rattle.luworld.specs.Reach.{IsReachable}
use Rattle.luworld.specs.Outline.{Outline, IsOutline, NoFault, full_script, script, system, part, events}
use Rattle.luworld.specs.Outline.{left, list_length, status_count, HasEnded}

-- a site's script is its part in all events
abbrev pub PartsLaw : Type 0
PartsLaw = (plan : Outline) (site : ℕ) → full_script plan site ≡ flat_map (part plan site) (events plan)

abbrev pub WiredLaw : Type 0
WiredLaw = (plan : Outline) → IsOutline plan → IsWired (system plan)

-- without a fault no script is cut, and every item is reachable, at any capacity from 1
abbrev pub WholeLaw : Type 0
WholeLaw = (plan : Outline) → IsOutline plan → NoFault plan → (site : ℕ)
    → (script plan site ≡ full_script plan site) × ((place : ℕ) → place < length (script plan site)
    → IsReachable (system plan) site place)

-- without a fault, after any schedule all is done or the turn of a site moves
abbrev pub NeverStuckLaw : Type 0
NeverStuckLaw = (plan : Outline) → IsOutline plan → NoFault plan → (schedule : List ℕ)
    → IsAllDone (system plan) (reached (system plan) schedule)
    ⊎ ((site : ℕ) × (turn (system plan) (reached (system plan) schedule) site ≡ Moved))

-- the items left, if all flows not yet passed were present
pub record LeftIs (plan : Outline) (schedule : List ℕ) : Type 0 where
  pub enough : item_count (system plan) ≤ moved_turns (system plan) schedule + left plan
      (reached (system plan) schedule)
  pub falls : (site : ℕ) → turn (system plan) (reached (system plan) schedule) site ≡ Moved
      → left plan (step (system plan) (reached (system plan) schedule) site) < left plan
      (reached (system plan) schedule)
  pub none_left : NoFault plan → (left plan (reached (system plan) schedule) ≡ 0) ↔ IsAllDone (system plan)
      (reached (system plan) schedule)

abbrev pub LeftLaw : Type 0
LeftLaw = (plan : Outline) → IsOutline plan → (schedule : List ℕ) → LeftIs plan schedule

-- without a fault the items are the present statuses, and twice each link's list
abbrev pub ItemCountLaw : Type 0
ItemCountLaw = (plan : Outline) → IsOutline plan → NoFault plan
    → item_count (system plan) ≡ status_count plan + 2 * total_below (list_length plan) plan.links

-- where a site has ended, its script was not cut, and no flow that stands there broke where it was present
abbrev pub EndedLaw : Type 0
EndedLaw = (plan : Outline) (world : ItemCounts) (site : ℕ) → HasEnded plan world site
    → (script plan site ≡ full_script plan site)
    × ((rank flow instant : ℕ) → slice_get plan.ranked rank ≡ Some flow → instant < plan.instants
    → plan.stands flow site ≡ true → plan.present flow instant ≡ true → plan.broken flow instant ≡ false)

-- without a fault a site has ended exactly where its script is done
abbrev pub DoneEndsLaw : Type 0
DoneEndsLaw = (plan : Outline) → IsOutline plan → NoFault plan → (world : ItemCounts) (site : ℕ)
    → done world site ≡ length (script plan site) → HasEnded plan world site

-- without a fault, a link's list was put whole where its sender has ended, and taken whole where its receiver
-- has
pub record PassedWhole (plan : Outline) (world : ItemCounts) (link : ℕ) : Type 0 where
  pub put : HasEnded plan world (plan.home (plan.flow_of link))
      → put_count (system plan) world link ≡ list_length plan link
  pub taken : HasEnded plan world (plan.receiver link)
      → taken_count (system plan) world link ≡ list_length plan link

abbrev pub PassedWholeLaw : Type 0
PassedWholeLaw = (plan : Outline) → IsOutline plan → NoFault plan → (world : ItemCounts) (link : ℕ)
    → link < plan.links → PassedWhole plan world link
