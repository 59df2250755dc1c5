-- What the turns of a replay did, reported turn by turn.
use Rattle.std.specs.Prelude.{◌≡◌, ℕ, ◌+◌, Bool, true, false, not, ◌||◌, ◌&&◌, nat_le, List, [], ◌∷◌, ◌++◌, codes, length}
use Rattle.std.specs.Prelude.{Option, Some, None, if◌then◌else◌}
use Rattle.std.specs.Fmt.{decimal}
use Rattle.luworld.specs.declared.turn.Turn.{Turn}
use Rattle.luworld.specs.declared.turn.Turn.TheVariants.{Moved, Blocked, Over}
use Rattle.luworld.specs.Needs.{PlanView}
use Rattle.luworld.specs.Systems.{Item, Compute, Puts, Takes, next_item, new_world, reached, run, turn, step}
use Rattle.luworld.specs.Systems.{NoTurnMoves}
use Rattle.luworld.specs.Jobs.{JobView, system_of}
use Rattle.luworld.specs.WorldViews.{WorldView}
use Rattle.luweave.specs.Slowest.{slowest}
use Rattle.luweave_text.specs.declared.counts.Counts.{Counts}
use Rattle.luweave_text.specs.declared.form.TraceForm.{TraceForm}
use Rattle.luweave_text.specs.declared.form.TraceForm.TheVariants.{Lines, Chart}
use Rattle.luweave_text.specs.declared.form.Tracing.{Tracing}
use Rattle.luweave_text.specs.WorldText.{site_name}
use Rattle.luweave_text.specs.Items.{item_text}
use Rattle.luweave_text.specs.Waits.{wait_cell, wait_text}
use Rattle.luweave_text.specs.Charted.{chart_line, heading, row, target_of}

-- ONE TURN

-- a line: how many turns have moved before, the site, and what it does or waits for
abbrev pub line : PlanView → ℕ → ℕ → List ℕ → List ℕ
line plan n s words = decimal n ++ (codes " " ++ (site_name plan.names s ++ (codes " " ++ (words ++ 10 ∷ []))))

-- the same as a line, or as a row of a chart, with an arrow to site t
abbrev pub report : TraceForm → PlanView → Counts → ℕ → ℕ → List ℕ → List ℕ
report Lines plan n s t words = line plan n.moved s words
report Chart plan n s t words = chart_line n.shown (row (length plan.names) n.moved s t words)

-- whether an item passes a message
abbrev pub passes : Item → Bool
passes (Compute flow instant) = false
passes (Puts l) = true
passes (Takes l) = true

-- what is reported of a turn that moves, by what the site does: all, or messages alone
abbrev pub move_report : Tracing → WorldView → Counts → ℕ → Option Item → List ℕ
move_report how w n s None = []
move_report how w n s (Some item) =
    if not how.messages || passes item
    then report how.form w.job.plan n s (target_of w.job.plan s item) (item_text w s item) else []

-- what is reported of a turn that finds no room or no message: nothing, unless that is asked for
abbrev pub wait_words : TraceForm → PlanView → Item → List ℕ
wait_words Lines plan item = wait_text plan item
wait_words Chart plan item = wait_cell plan item

abbrev pub blocked_report : Tracing → PlanView → Counts → ℕ → Item → List ℕ
blocked_report how plan n s item =
    if how.blocked then report how.form plan n s s (wait_words how.form plan item) else []

abbrev pub wait_report : Tracing → WorldView → Counts → ℕ → Option Item → List ℕ
wait_report how w n s None = []
wait_report how w n s (Some item) = blocked_report how w.job.plan n s item

-- a turn of a site that does nothing more isn't reported
abbrev pub by_answer : Turn → List ℕ → List ℕ → List ℕ
by_answer Moved moves waits = moves
by_answer Blocked moves waits = waits
by_answer Over moves waits = []

abbrev pub turn_of : WorldView → ℕ → Turn
turn_of w s = turn (system_of w.job) w.dones s

-- an instant is among those from one to another, both of them; where one isn't given, nothing is cut there
abbrev pub is_from : Option ℕ → ℕ → Bool
is_from None t = true
is_from (Some first) t = nat_le first t

abbrev pub is_to : Option ℕ → ℕ → Bool
is_to None t = true
is_to (Some last) t = nat_le t last

abbrev pub is_between : Option ℕ → Option ℕ → ℕ → Bool
is_between from to t = is_from from t && is_to to t

-- turns are reported at whose beginning the slowest site stands at such an instant
abbrev pub uncut : Tracing → WorldView → List ℕ → List ℕ
uncut how w text = if is_between how.from how.to (slowest w) then text else []

abbrev pub turn_text : Tracing → WorldView → Counts → ℕ → List ℕ
turn_text how w n s =
    by_answer (turn_of w s) (uncut how w (move_report how w n s (next_item (system_of w.job) w.dones s)))
    (uncut how w (wait_report how w n s (next_item (system_of w.job) w.dones s)))

-- how many turns have moved then, and how many are reported
abbrev pub moved_then : ℕ → Turn → ℕ
moved_then n Moved = n + 1
moved_then n Blocked = n
moved_then n Over = n

abbrev pub one_more : ℕ → List ℕ → ℕ
one_more n [] = n
one_more n (b ∷ text) = n + 1

abbrev pub counts_then : Tracing → WorldView → Counts → ℕ → Counts
counts_then how w n s = record {
  moved = moved_then n.moved (turn_of w s);
  shown = one_more n.shown (turn_text how w n s);
}

-- ALL TURNS

-- the world after a turn
abbrev pub after : WorldView → ℕ → WorldView
after w s = record w { dones = step (system_of w.job) w.dones s }

-- what is reported of turns in order, where so many have moved and are reported before
unfoldable pub trace_text : Tracing → WorldView → Counts → List ℕ → List ℕ
trace_text how w n [] = []
trace_text how w n (s ∷ turns) = turn_text how w n s ++ trace_text how (after w s) (counts_then how w n s) turns

-- how many have moved and are reported then
unfoldable pub counts_of : Tracing → WorldView → Counts → List ℕ → Counts
counts_of how w n [] = n
counts_of how w n (s ∷ turns) = counts_of how (after w s) (counts_then how w n s) turns

-- more turns were given, each reported
pub record HasMore (how : Tracing) (w : WorldView) (counts : Counts)
    (text dones text' : List ℕ) : Type 0 where
  pub more : List ℕ
  pub dones_are : dones ≡ run (system_of w.job) w.dones more
  pub text_is : text' ≡ text ++ trace_text how w counts more

-- a run before any turn
abbrev pub beginning : JobView → WorldView
beginning job = record { job = job; dones = new_world (system_of job) }

abbrev pub no_counts : Counts
no_counts = record { moved = 0; shown = 0 }

-- what stands before the first turn
abbrev pub opening : TraceForm → PlanView → List ℕ
opening Lines plan = []
opening Chart plan = heading plan.names

-- The world after turns, and, where it is to be finished, after more until none moves, and no others; and
-- what is reported of all these turns.
pub record IsTraced (job : JobView) (turns : List ℕ) (finish : Bool) (how : Tracing) (dones : List ℕ)
    (text : List ℕ) : Type 0 where
  pub more : List ℕ
  pub dones_are : dones ≡ reached (system_of job) (turns ++ more)
  pub no_more : finish ≡ false → more ≡ []
  pub quiet : finish ≡ true → NoTurnMoves (system_of job) dones
  pub text_is : text ≡ opening how.form job.plan ++ trace_text how (beginning job) no_counts (turns ++ more)
