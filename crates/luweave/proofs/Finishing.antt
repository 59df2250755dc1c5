-- What is left of a world, and turns joined to others.
use Rattle.std.proofs.Common.{◌≡◌, ◌↔◌, ℕ, ◌+◌, ◌<◌, ◌≤◌, inl, inr, List, [], ◌∷◌, ◌++◌, length, refl, sym, ap, ap₂, ◌∙◌, subst, arith, add-one}
use Rattle.std.specs.Prelude.{slice_get, Some}
use Rattle.std.proofs.lemmas.Bool.{cases_lt}
use Rattle.std.proofs.lemmas.List.{length-map}
use Rattle.luworld.specs.declared.turn.Turn.TheVariants.{Moved}
use Rattle.luworld.specs.Systems.{Item, System, ItemCounts, new_world, turn, step, run, reached, total_below, IsAllDone}
use Rattle.luworld.specs.Reach.{IsGood}
use Rattle.luworld.specs.Outline.{left_at, left_after}
use Rattle.luworld.specs.Needs.{sites_of}
use Rattle.luworld.specs.Jobs.{JobView, IsJobView, IsJob, streams_of, outline, script, system_of, NoFault}
use Rattle.luworld.specs.WorldViews.{AllEnded}
use Rattle.luworld.proofs.Outlines.{is_wired, is_outline, no_break}
use Rattle.luworld.proofs.Ended.{done_ends}
use Rattle.luworld.proofs.Left.{left_step, left_covers, left_zero}
use Rattle.lusite.specs.Sites.{SiteView}
use Rattle.luweave.specs.declared.link_queue.LinkQueue.{LinkQueue}
use Rattle.luweave.specs.Worlds.{IsWorld, IsLater, dones_of, undone, left_of}
use Rattle.luweave.proofs.Worlds.{done_at}

-- where all sites have ended all scripts are done
pub ended_done : (job : JobView) → IsJob job → (dones : ItemCounts) → IsGood (system_of job) dones → AllEnded job dones → IsAllDone (system_of job) dones
ended_done job ok dones good ended s = elim (cases_lt s (sites_of job.plan)) [
  | inl lt ↦ (ended s lt).whole
  | inr ge ↦
      let n : length (script job (streams_of job) s) ≡ 0 = ap (length {A = Item}) ((is_wired job ok).no_more_sites s ge) in
      let inside = good.inside s in
      omega (arith, n, inside)
]

module _ (job : JobView) (sites : List SiteView) (link_queues : List LinkQueue) (capacity : ℕ) (w : IsWorld job sites link_queues capacity) where
  -- a turn that moves leaves fewer items
  pub left_falls : (s : ℕ) → turn (system_of job) (dones_of sites) s ≡ Moved → left_of job (step (system_of job) (dones_of sites) s) < left_of job (dones_of sites)
  left_falls s e = left_step (outline job (streams_of job)) (is_outline job w.is_job) (dones_of sites) w.good s e

  pub left_enough : undone job (dones_of sites) ≤ left_of job (dones_of sites)
  left_enough = left_covers (outline job (streams_of job)) (is_outline job w.is_job) (dones_of sites) w.good

  -- without a fault no item is left exactly where all sites have ended
  pub left_none : NoFault job → (left_of job (dones_of sites) ≡ 0) ↔ AllEnded job (dones_of sites)
  left_none fine = (to, from)
    where
      to : left_of job (dones_of sites) ≡ 0 → AllEnded job (dones_of sites)
      to z s _ =
          let plan = outline job (streams_of job) in
          let all = (left_zero plan (is_outline job w.is_job) (dones_of sites) w.good (no_break job w.is_job fine)).0 z in
          done_ends plan (is_outline job w.is_job) (no_break job w.is_job fine) (dones_of sites) s (all s)

      from : AllEnded job (dones_of sites) → left_of job (dones_of sites) ≡ 0
      from ended =
          let plan = outline job (streams_of job) in
          (left_zero plan (is_outline job w.is_job) (dones_of sites) w.good (no_break job w.is_job fine)).1 (ended_done job w.is_job (dones_of sites) w.good ended)

  -- one site more
  pub left_more : (s : ℕ) (v : SiteView) (n : ℕ) → slice_get sites s ≡ Some v → n ≡ left_after (outline v.job (streams_of v.job)) v.site v.done → total_below (left_at (outline job (streams_of job)) (dones_of sites)) (s + 1) ≡ total_below (left_at (outline job (streams_of job)) (dones_of sites)) s + n
  left_more s v n at e =
      let h = w.sites_are s v at in
      let same = ap (λ (j : JobView). left_after (outline j (streams_of j)) v.site v.done) h.0 ∙ ap₂ (left_after (outline job (streams_of job))) h.1 (sym (done_at sites s v at)) in
      let f = e ∙ same in
      let k = ap (total_below (left_at (outline job (streams_of job)) (dones_of sites))) (add-one s) in
      omega (arith, f, k)

  -- there are at most 16 sites
  pub sites_few : (s : ℕ) (v : SiteView) → slice_get sites s ≡ Some v → IsJobView v.job → length sites ≤ 16
  sites_few s v at run =
      let few = (subst IsJobView (w.sites_are s v at).0 run).plan_is.few_sites in
      let long = w.good.long in
      let n = length-map sites (λ (x : SiteView). x.done) in
      omega (arith, few, long, n)

  pub sites_long : length sites ≡ sites_of job.plan
  sites_long =
      let long = w.good.long in
      let n = length-map sites (λ (x : SiteView). x.done) in
      omega (arith, long, n)

-- turns, and then others
run_on : (sys : System) (world : ItemCounts) (turns more : List ℕ) → run sys world (turns ++ more) ≡ run sys (run sys world turns) more
run_on sys world [] more = refl
run_on sys world (t ∷ turns) more = run_on sys (step sys world t) turns more

-- no turn at all, and one turn more
pub later_none : (job : JobView) (dones : List ℕ) → IsLater job dones dones
later_none job dones = ([], refl)

pub later_more : (job : JobView) (first dones next : List ℕ) (s : ℕ) → IsLater job first dones → next ≡ step (system_of job) dones s → IsLater job first next
later_more job first dones next s later e =
    (later.0 ++ s ∷ [], run_on (system_of job) first later.0 (s ∷ []) ∙ ap (λ (x : ItemCounts). step (system_of job) x s) later.1 ∙ sym e)

-- some turns after a schedule: a longer schedule
pub reached_later : (job : JobView) (schedule dones : List ℕ) → IsLater job (reached (system_of job) schedule) dones → (longer : List ℕ) × (reached (system_of job) longer ≡ dones)
reached_later job schedule dones later = (schedule ++ later.0, run_on (system_of job) (new_world (system_of job)) schedule later.0 ∙ later.1)
