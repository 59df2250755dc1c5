-- Why the sites of a world stand still that are open, or what they can do:
--
--     A: open at instant 3, waits for room in x to B
--     B: open at the close, waits for a message of c from A
--     C: open at instant 0, can move: computes
use Rattle.std.specs.Prelude.{◌≡◌, ℕ, ◌+◌, List, [], ◌++◌, codes, Option, Some, None, slice_get, nat_lt}
use Rattle.std.specs.Prelude.{if◌then◌else◌}
use Rattle.std.specs.Fmt.{decimal}
use Rattle.luflow.specs.Variables.{variable_name}
use Rattle.luworld.specs.declared.link.Link.{Link}
use Rattle.luworld.specs.declared.turn.Turn.{Turn}
use Rattle.luworld.specs.declared.turn.Turn.TheVariants.{Moved, Blocked, Over}
use Rattle.luworld.specs.Needs.{PlanView}
use Rattle.luworld.specs.Systems.{Item, Compute, Puts, Takes, done, next_item, turn}
use Rattle.luworld.specs.Jobs.{carried, system_of}
use Rattle.luworld.specs.WorldViews.{WorldView}
use Rattle.lusite.specs.Machine.{IsAtInstant}
use Rattle.luweave_text.specs.WorldText.{site_name}

-- the flow that a link carries and the site that it leads to, or the one that it comes from
abbrev pub to_text : PlanView → Option Link → List ℕ
to_text plan None = []
to_text plan (Some link) = codes " to " ++ site_name plan.names link.to

abbrev pub from_text : PlanView → Option Link → List ℕ
from_text plan None = []
from_text plan (Some link) = codes " from " ++ site_name plan.names link.from

abbrev pub outward : PlanView → ℕ → List ℕ
outward plan l = variable_name plan.flat (carried plan l) ++ to_text plan (slice_get plan.links l)

abbrev pub inward : PlanView → ℕ → List ℕ
inward plan l = variable_name plan.flat (carried plan l) ++ from_text plan (slice_get plan.links l)

-- what a site waits for whose next item is this and can't be done: room in a link, or a message; a
-- computation never waits
abbrev pub wait_text : PlanView → Item → List ℕ
wait_text plan (Compute flow instant) = []
wait_text plan (Puts l) = codes "waits for room in " ++ outward plan l
wait_text plan (Takes l) = codes "waits for a message of " ++ inward plan l

-- the same in few words, for a column of a chart
abbrev pub wait_cell : PlanView → Item → List ℕ
wait_cell plan (Compute flow instant) = []
wait_cell plan (Puts l) = codes "waits to put " ++ variable_name plan.flat (carried plan l)
wait_cell plan (Takes l) = codes "waits to take " ++ variable_name plan.flat (carried plan l)

-- what it does next where that can be done
abbrev pub move_text : PlanView → Item → List ℕ
move_text plan (Compute flow instant) = codes "can move: computes"
move_text plan (Puts l) = codes "can move: puts " ++ outward plan l
move_text plan (Takes l) = codes "can move: takes " ++ inward plan l

-- by what its turn answers
abbrev pub stand_text : PlanView → Item → Turn → List ℕ
stand_text plan item Moved = move_text plan item
stand_text plan item Blocked = wait_text plan item
stand_text plan item Over = []

-- the instant at which a site stands, of so many; behind the last one it puts and takes the closes
abbrev pub instant_text : ℕ → ℕ → List ℕ
instant_text instants t = if nat_lt t instants then codes "at instant " ++ decimal t else codes "at the close"

-- the line of a site that stands at an instant, and does this next; none of one that does nothing more
abbrev pub stand_line : WorldView → ℕ → ℕ → Option Item → List ℕ
stand_line w s t None = []
stand_line w s t (Some item) = site_name w.job.plan.names s ++ (codes ": open "
    ++ (instant_text w.job.inputs.instants t ++ (codes ", "
    ++ (stand_text w.job.plan item (turn (system_of w.job) w.dones s) ++ codes "\n"))))

-- that of site s
pub record IsStandLine (w : WorldView) (s : ℕ) (line : List ℕ) : Type 0 where
  pub instant : ℕ
  pub at : IsAtInstant w.job s (done w.dones s) instant
  pub line_is : line ≡ stand_line w s instant (next_item (system_of w.job) w.dones s)

-- those of the first n sites
pub data AreStandLines (w : WorldView) : ℕ → List ℕ → Type 0 where
  NoStands : AreStandLines w 0 []
  OneStandMore : (n : ℕ) (lines line : List ℕ) → AreStandLines w n lines → IsStandLine w n line
      → AreStandLines w (n + 1) (lines ++ line)
