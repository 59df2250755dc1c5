-- The laws of schedules, at the scripts of a run.
use Rattle.std.proofs.Common.{◌≡◌, ◌≢◌, ℕ, zero, suc, ◌+◌, ◌*◌, ◌<◌, inl, inr, List, [], ◌∷◌, length, replicate, sum, refl, sym, ap, ap₂, ◌∙◌, arith}
use Rattle.std.proofs.lemmas.List.Sums.{sum_by-set, sum_by-cons}
use Rattle.luworld.specs.declared.turn.Turn.{Turn}
use Rattle.luworld.specs.declared.turn.Turn.TheVariants.{Moved, Blocked, Over}
use Rattle.luworld.specs.Systems.{System, IsWired, ItemCounts, done, new_world, turn, step, run, moves, moves_of, moved_turns, reached, item_count, total_below}
use Rattle.luworld.specs.Reach.{IsGood}
use Rattle.luworld.specs.Laws.{MovesLaw}
use Rattle.luworld.specs.Outline.{list_length, status_count}
use Rattle.luworld.specs.OutlineLaws.{WholeLaw, ItemCountLaw}
use Rattle.luworld.specs.Jobs.{JobView, IsJob, NoFault, outline, streams_of, system_of, endless, link_list}
use Rattle.luworld.proofs.Ended.{done_ends}
use Rattle.luworld.proofs.Ends.{reachable_done, none_moves}
use Rattle.luworld.proofs.Jobs.{good_new, good_step, good_reached}
use Rattle.luworld.proofs.Steps.{moved_item, step_moved, step_stays, cases_moved, site_within}
use Rattle.luworld.proofs.Outlines.{is_wired, is_outline, no_break, list_long}
use Rattle.lusite.specs.Sites.{SiteView}
use Rattle.luweave.specs.declared.link_queue.LinkQueue.{LinkQueue}
use Rattle.luweave.specs.Schedules.{IsWithinReach, AreWholeScripts, EachMoveCount, whole_count}
use Rattle.luweave.specs.Worlds.{IsWorld, dones_of}
use Rattle.luweave.proofs.Finishing.{ended_done}

module _ (job : JobView) (sites : List SiteView) (link_queues : List LinkQueue) (capacity : ℕ) (w : IsWorld job sites link_queues capacity) where
  pub within_reach : IsWithinReach job (dones_of sites)
  within_reach =
      let wired = is_wired job w.is_job in
      record {
        reachable = w.good.reachable;
        quiet = (λ quiet. reachable_done (system_of job) wired (dones_of sites) quiet, λ all. none_moves (system_of job) wired (dones_of sites) w.good all);
      }

total_within : (f g : ℕ → ℕ) (n : ℕ) → ((i : ℕ) → i < n → f i ≡ g i) → total_below f n ≡ total_below g n
total_within f g zero same = refl
total_within f g (suc n) same = ap₂ ◌+◌ (total_within f g n (λ i l. same i (omega (arith, l)))) (same n (omega arith))

sum_zeros : (n : ℕ) → sum (replicate n 0) ≡ 0
sum_zeros zero = refl
sum_zeros (suc n) = sum_by-cons (λ x. x) 0 (replicate n 0) ∙ omega (arith, sum_zeros n)

-- a turn that moves does one item
module _ (sys : System) (wired : IsWired sys) where
  step_sum : (world : ItemCounts) → IsGood sys world → (site : ℕ) → sum (step sys world site) ≡ moves_of (turn sys world site) + sum world
  step_sum world good site = elim (cases_moved sys world site) [
    | inl e ↦
        let m = moved_item sys world site e in
        let within = site_within sys wired site (done world site) m.0 m.1 in
        let s = sum_by-set (λ x. x) world site (suc (done world site)) 0 (omega (arith, within, good.long)) in
        omega (arith, ap sum (step_moved sys world site e), s, ap moves_of e)
    | inr stays ↦ omega (arith, ap sum (step_stays sys world site stays), idle (turn sys world site) stays)
  ]
    where
      idle : (t : Turn) → t ≢ Moved → moves_of t ≡ 0
      idle Moved ne = absurd (ne refl)
      idle Blocked ne = refl
      idle Over ne = refl

  run_sum : (schedule : List ℕ) (world : ItemCounts) → IsGood sys world → sum (run sys world schedule) ≡ moves sys world schedule + sum world
  run_sum [] world good = omega arith
  run_sum (site ∷ schedule) world good =
      let r = run_sum schedule (step sys world site) (good_step sys wired world good site) in
      let s = step_sum world good site in
      omega (arith, r, s)

  moved_sum : (schedule : List ℕ) → moved_turns sys schedule ≡ sum (reached sys schedule)
  moved_sum schedule =
      let r = run_sum schedule (new_world sys) (good_new sys) in
      let z = sum_zeros sys.sites in
      omega (arith, r, z)

module _ (job : JobView) (ok : IsJob job) (items : ItemCountLaw) where
  counted : NoFault job → item_count (system_of job) ≡ whole_count job
  counted fine =
      let plan = outline job (streams_of job) in
      let lists = total_within (list_length plan) (λ l. length (link_list job (streams_of job) l)) (length job.plan.links) (λ l lt. list_long job ok l lt) in
      items plan (is_outline job ok) (no_break job ok fine) ∙ ap (λ n. status_count plan + 2 * n) lists

  pub whole_scripts : WholeLaw → NoFault job → AreWholeScripts job
  unfolding endless
  whole_scripts whole fine =
      let plan = outline job (streams_of job) in
      let each = whole plan (is_outline job ok) (no_break job ok fine) in
      record {
        uncut = λ s. (each s).0;
        reachable = λ s. (each s).1;
        counted = counted fine;
      }

  pub move_count : MovesLaw → EachMoveCount job
  move_count law schedule =
      let plan = outline job (streams_of job) in
      let world = reached (system_of job) schedule in
      let m = law (system_of job) (is_wired job ok) schedule in
      record {
        is = moved_sum (system_of job) (is_wired job ok) schedule;
        most = m.0;
        all = m.1;
        ended = λ fine. (
          λ n. λ s _. done_ends plan (is_outline job ok) (no_break job ok fine) world s (m.1.0 (n ∙ sym (counted fine)) s),
          λ ended. m.1.1 (ended_done job ok world (good_reached (system_of job) (is_wired job ok) schedule) ended) ∙ counted fine,
        );
      }
