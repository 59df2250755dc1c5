-- Turns, their lines, and other turns behind them.
use Rattle.std.proofs.Common.{◌≡◌, ℕ, ◌+◌, ◌*◌, ◌^◌, ◌<◌, ◌≤◌, Bool, true, false, length, subst, List, [], ◌∷◌, ◌++◌, Option, Some, None, Result, IfOk, refl, sym, ap, ap₂, ◌∙◌, arith, append-nil, append_assoc}
use Rattle.std.specs.Prelude.{is_ok, is_some, not, slice_get, Ok, Err, if◌then◌else◌}
use Rattle.luworld.specs.declared.turn.Turn.{Turn}
use Rattle.luworld.specs.declared.turn.Turn.TheVariants.{Moved, Blocked, Over}
use Rattle.luworld.specs.Systems.{Item, System, ItemCounts, new_world, run, step, turn, NoTurnMoves}
use Rattle.luworld.specs.Needs.{PlanView}
use Rattle.lusite.specs.Sites.{SiteView}
use Rattle.lusite.specs.Widths.{most_left}
use Rattle.luweave.specs.Worlds.{IsNewWorld, left_of}
use Rattle.luworld.specs.Jobs.{JobView, script, streams_of, system_of}
use Rattle.std.proofs.lemmas.Option.{slice_get_within}
use Rattle.std.proofs.lemmas.Result.{IfOk-weaker}
use Rattle.luworld.specs.WorldViews.{WorldView}
use Rattle.luweave_text.specs.declared.counts.Counts.{Counts}
use Rattle.luweave_text.specs.declared.form.Tracing.{Tracing}
use Rattle.luweave_text.specs.Traced.{after, turn_text, counts_then, trace_text, counts_of, no_counts, moved_then, opening, HasMore, IsTraced}

pub no_item : (o : Option Item) → is_some o ≡ false → o ≡ None
no_item None e = refl
no_item (Some item) e = absurd cc

pub some_item : (o : Option Item) → is_some o ≡ true → (item : Item) × (o ≡ Some item)
some_item None e = absurd cc
some_item (Some item) e = (item, refl)

abbrev item_or : Item → Option Item → Item
item_or other None = other
item_or other (Some item) = item

-- the next item of a site
module _ (job : JobView) (s n : ℕ) (item : Item) (there : slice_get (script job (streams_of job) s) n ≡ Some item) where
  pub is_item : (other : Item) → slice_get (script job (streams_of job) s) n ≡ Some other → item ≡ other
  is_item other e = ap (item_or item) (sym there ∙ e)

  pub not_over : n ≡ length (script job (streams_of job) s) → ⊥
  not_over e = let within = slice_get_within (script job (streams_of job) s) n item there in omega (arith, within, e)

pub blocked_then : (b : Bool) → not b ≡ false → b ≡ true
blocked_then true e = refl
blocked_then false e = absurd cc

-- what is added where a call adds it
pub when_ok : {X E : Type 0} (r : Result X E) (new more old : List ℕ) → new ≡ (if is_ok r then more else old) → IfOk r (λ _. new ≡ more)
when_ok (Ok x) new more old e = e
when_ok (Err x) new more old e = tt

-- a part is added, and then the rest
pub part_more : (first mid last part rest : List ℕ) → mid ≡ first ++ part → last ≡ mid ++ rest → last ≡ first ++ (part ++ rest)
part_more first mid last part rest h e = e ∙ ap (λ (xs : List ℕ). xs ++ rest) h ∙ append_assoc first part rest

pub then_added : {X E : Type 0} (r : Result X E) (old mid new part rest whole : List ℕ) → mid ≡ old ++ part → IfOk r (λ _. new ≡ mid ++ rest) → whole ≡ part ++ rest → IfOk r (λ _. new ≡ old ++ whole)
then_added r old mid new part rest whole h adds e =
    IfOk-weaker r _ _ (λ x more. part_more old mid new part rest h more ∙ ap (λ (xs : List ℕ). old ++ xs) (sym e)) adds

-- a turn is one that moves at most
pub moved_few : (n : ℕ) (answer : Turn) → moved_then n answer ≤ n + 1
moved_few n Moved = omega arith
moved_few n Blocked = omega arith
moved_few n Over = omega arith

-- A turn that moves leaves fewer turns.
pub left_less : (how : Tracing) (w : WorldView) (counts : Counts) (s : ℕ) (next : WorldView) (counts2 : Counts) (left : ℕ) → turn (system_of w.job) w.dones s ≡ Moved → left ≡ left_of w.job w.dones
    → ((r : ℕ) → turn (system_of w.job) w.dones r ≡ Moved → left_of w.job (step (system_of w.job) w.dones r) < left) → next.job ≡ w.job → next.dones ≡ step (system_of w.job) w.dones s
    → counts2 ≡ counts_then how w counts s → counts.moved + left_of w.job w.dones ≤ 2 ^ 63 + 16 * most_left → counts2.moved + left_of next.job next.dones ≤ 2 ^ 63 + 16 * most_left
left_less how w counts s next counts2 left moves is falls same stepped counted few =
    let e = ap (λ (n : Counts). n.moved) counted ∙ ap (moved_then counts.moved) moves in
    let now = ap₂ left_of same stepped in
    let less = falls s moves in
    omega (arith, e, now, less, is, few)

-- a progress by its parts
pub progress_is : (w : WorldView) (job : JobView) (dones : List ℕ) → w.job ≡ job → w.dones ≡ dones → w ≡ record { job = job; dones = dones }
progress_is w job dones same e = ap₂ (λ (j : JobView) (ds : List ℕ). let p : WorldView = record { job = j; dones = ds } in p) same e

-- the world after some turns
abbrev pub at : WorldView → List ℕ → WorldView
at w turns = record w { dones = run (system_of w.job) w.dones turns }

pub reported_append : (how : Tracing) (w : WorldView) (n : Counts) (xs ys : List ℕ) → counts_of how w n (xs ++ ys) ≡ counts_of how (at w xs) (counts_of how w n xs) ys
unfolding counts_of
reported_append how w n [] ys = refl
reported_append how w n (s ∷ xs) ys = reported_append how (after w s) (counts_then how w n s) xs ys

pub trace_append : (how : Tracing) (w : WorldView) (n : Counts) (xs ys : List ℕ) → trace_text how w n (xs ++ ys) ≡ trace_text how w n xs ++ trace_text how (at w xs) (counts_of how w n xs) ys
unfolding trace_text counts_of
trace_append how w n [] ys = refl
trace_append how w n (s ∷ xs) ys =
    let first = turn_text how w n s in
    let m = counts_then how w n s in
    ap (λ (ts : List ℕ). first ++ ts) (trace_append how (after w s) m xs ys)
    ∙ sym (append_assoc first (trace_text how (after w s) m xs) (trace_text how (at (after w s) xs) (counts_of how (after w s) m xs) ys))

pub run_append : (sys : System) (world : ItemCounts) (xs ys : List ℕ) → run sys world (xs ++ ys) ≡ run sys (run sys world xs) ys
run_append sys world [] ys = refl
run_append sys world (s ∷ xs) ys = run_append sys (step sys world s) xs ys

-- more turns were given, and so many are reported then
pub record HasReported (how : Tracing) (w : WorldView) (before : Counts) (text : List ℕ) (reported : Counts) (dones text' : List ℕ) : Type 0 where
  pub has : HasMore how w before text dones text'
  pub reported_is : reported ≡ counts_of how w before has.more

pub reported_none : (how : Tracing) (w : WorldView) (before : Counts) (text : List ℕ) → HasReported how w before text before w.dones text
unfolding trace_text counts_of
reported_none how w before text = record { has = record { more = []; dones_are = refl; text_is = sym (append-nil text) }; reported_is = refl }

pub reported_more : (how : Tracing) (w : WorldView) (before : Counts) (text : List ℕ) (reported : Counts) (dones text' : List ℕ) → HasReported how w before text reported dones text'
    → (now : WorldView) → now ≡ record { job = w.job; dones = dones } → (s : ℕ) (reported2 : Counts) (dones2 text2 : List ℕ) → dones2 ≡ step (system_of now.job) now.dones s
    → text2 ≡ text' ++ turn_text how now reported s → reported2 ≡ counts_then how now reported s → HasReported how w before text reported2 dones2 text2
unfolding trace_text counts_of
reported_more how w before text reported dones text' h now is s reported2 dones2 text2 ed et em =
    let more = h.has.more in
    let here : now ≡ at w more = is ∙ ap (λ (ds : List ℕ). let p : WorldView = record { job = w.job; dones = ds } in p) h.has.dones_are in
    let sys = system_of w.job in
    let count = counts_of how w before more in
    let line : turn_text how now reported s ≡ trace_text how (at w more) count (s ∷ []) =
    ap₂ (λ (p : WorldView) (n : Counts). turn_text how p n s) here h.reported_is ∙ sym (append-nil (turn_text how (at w more) count s)) in
    record {
      has = record {
        more = more ++ s ∷ [];
        dones_are = ed ∙ ap (λ (p : WorldView). step (system_of p.job) p.dones s) here ∙ sym (run_append sys w.dones more (s ∷ []));
        text_is = et ∙ ap₂ (λ (xs ys : List ℕ). xs ++ ys) h.has.text_is line
            ∙ append_assoc text (trace_text how w before more) (trace_text how (at w more) count (s ∷ []))
            ∙ ap (λ (ts : List ℕ). text ++ ts) (sym (trace_append how w before more (s ∷ [])));
      };
      reported_is = em ∙ ap₂ (λ (p : WorldView) (n : Counts). counts_then how p n s) here h.reported_is ∙ sym (reported_append how w before more (s ∷ []));
    }

-- One turn of those that are left: what it makes, and what the rest makes of that, is what all that were left made.
module _ (how : Tracing) (w next : WorldView) (s : ℕ) (left rest : List ℕ) (first : left ≡ s ∷ rest) (is : next ≡ after w s) where
  pub run_next : run (system_of next.job) next.dones rest ≡ run (system_of w.job) w.dones left
  run_next = ap (λ (p : WorldView). run (system_of p.job) p.dones rest) is ∙ ap (run (system_of w.job) w.dones) (sym first)

  pub reported_next : (reported reported2 all : Counts) → reported2 ≡ counts_then how w reported s → counts_of how w reported left ≡ all → counts_of how next reported2 rest ≡ all
  unfolding counts_of
  reported_next reported reported2 all em e =
      ap₂ (λ (p : WorldView) (n : Counts). counts_of how p n rest) is em ∙ ap (counts_of how w reported) (sym first) ∙ e

  pub text_next : (reported reported2 : Counts) (text text2 all : List ℕ) → reported2 ≡ counts_then how w reported s → text2 ≡ text ++ turn_text how w reported s → text ++ trace_text how w reported left ≡ all → text2 ++ trace_text how next reported2 rest ≡ all
  unfolding trace_text
  text_next reported reported2 text text2 all em et e =
      ap₂ (λ (xs ys : List ℕ). xs ++ ys) et (ap₂ (λ (p : WorldView) (n : Counts). trace_text how p n rest) is em)
      ∙ append_assoc text (turn_text how w reported s) (trace_text how (after w s) (counts_then how w reported s) rest)
      ∙ ap (λ (ts : List ℕ). text ++ trace_text how w reported ts) (sym first) ∙ e

-- what is reported of turns, and of more turns behind them
pub traced_on : (how : Tracing) (w next : WorldView) (turns more : List ℕ) (reported : Counts) (start text text2 : List ℕ) → next ≡ at w turns → reported ≡ counts_of how w no_counts turns
    → text ≡ start ++ trace_text how w no_counts turns → text2 ≡ text ++ trace_text how next reported more → text2 ≡ start ++ trace_text how w no_counts (turns ++ more)
traced_on how w next turns more reported start text text2 is em et e =
    e ∙ ap₂ (λ (xs ys : List ℕ). xs ++ ys) et (ap₂ (λ (p : WorldView) (n : Counts). trace_text how p n more) is em)
    ∙ append_assoc start (trace_text how w no_counts turns) (trace_text how (at w turns) (counts_of how w no_counts turns) more)
    ∙ ap (λ (ts : List ℕ). start ++ ts) (sym (trace_append how w no_counts turns more))

-- nothing is left
pub text_whole : (how : Tracing) (w : WorldView) (reported : Counts) (left text all : List ℕ) → left ≡ [] → text ++ trace_text how w reported left ≡ all → text ≡ all
unfolding trace_text
text_whole how w reported left text all none e = sym (append-nil text) ∙ ap (λ (ts : List ℕ). text ++ trace_text how w reported ts) (sym none) ∙ e

pub reported_whole : (how : Tracing) (w : WorldView) (reported : Counts) (left : List ℕ) (all : Counts) → left ≡ [] → counts_of how w reported left ≡ all → reported ≡ all
unfolding counts_of
reported_whole how w reported left all none e = sym (ap (counts_of how w reported) none) ∙ e

pub first_there : (sites : List SiteView) → 0 < length sites → (v : SiteView) × (slice_get sites 0 ≡ Some v)
first_there [] some = absurd (omega arith)
first_there (v ∷ sites) some = (v, refl)

-- the plan of a world of new sites
pub world_plan : (plan : PlanView) (sites : List SiteView) (job : JobView) → IsNewWorld plan sites → ((v : SiteView) → slice_get sites 0 ≡ Some v → job ≡ v.job) → job.plan ≡ plan
world_plan plan sites job new first =
    let (v, there) = first_there sites new.some in
    ap (λ (r : JobView). r.plan) (first v there ∙ (new.each 0 v there).job_is) ∙ sym new.plan_is

-- turns of a new world, and more turns behind them
pub traced_whole : (how : Tracing) (plan : PlanView) (turns : List ℕ) (finish : Bool) (new w last : WorldView) (reported : Counts) (start text text2 : List ℕ)
    → new.dones ≡ new_world (system_of new.job) → new.job.plan ≡ plan → start ≡ opening how.form plan
    → w.job ≡ new.job → w.dones ≡ run (system_of new.job) new.dones turns → reported ≡ counts_of how new no_counts turns → text ≡ start ++ trace_text how new no_counts turns
    → last.job ≡ w.job → (has : HasMore how w reported text last.dones text2) → (finish ≡ false → has.more ≡ []) → (finish ≡ true → NoTurnMoves (system_of last.job) last.dones)
    → IsTraced last.job turns finish how last.dones text2
traced_whole how plan turns finish new w last reported start text text2 begins planned opens same ed em et same2 has no_more quiet =
    let whole : last.job ≡ new.job = same2 ∙ same in
    let sys = system_of new.job in
    let opened : start ≡ opening how.form new.job.plan = opens ∙ ap (opening how.form) (sym planned) in
    let traced : IsTraced new.job turns finish how last.dones text2 =
    record {
      more = has.more;
      dones_are = has.dones_are ∙ ap₂ (λ (j : JobView) (ds : List ℕ). run (system_of j) ds has.more) same ed ∙ sym (run_append sys new.dones turns has.more) ∙ ap (λ (ds : List ℕ). run sys ds (turns ++ has.more)) begins;
      no_more = no_more;
      quiet = λ e. subst (λ (j : JobView). NoTurnMoves (system_of j) last.dones) whole (quiet e);
      text_is = traced_on how new w turns has.more reported start text text2 (progress_is w new.job (run sys new.dones turns) same ed) em et has.text_is
          ∙ ap₂ (λ (xs : List ℕ) (p : WorldView). xs ++ trace_text how p no_counts (turns ++ has.more)) opened (progress_is new new.job (new_world sys) refl begins);
    } in
    subst (λ (j : JobView). IsTraced j turns finish how last.dones text2) (sym whole) traced

pub no_lines : (how : Tracing) (w : WorldView) (reported : Counts) (text : List ℕ) → text ≡ text ++ trace_text how w reported []
unfolding trace_text
no_lines how w reported text = sym (append-nil text)
