-- Where all sites have ended no flow breaks.
use Rattle.std.proofs.Common.{◌≡◌, ℕ, zero, suc, ◌<◌, inl, inr, Bool, true, false, List, [], ◌∷◌, length, take, get_or, Option, Some, None, refl, sym, ap, ◌∙◌, subst, arith, nat_lt}
use Rattle.std.specs.Prelude.{slice_get, slice_index, All, Contains}
use Rattle.std.proofs.lemmas.List.Elements.{All-get_or}
use Rattle.std.proofs.lemmas.Option.{slice_get_within, slice_get-get_or}
use Rattle.std.proofs.lemmas.Bool.{cases_eq, false≢true}
use Rattle.std.proofs.lemmas.List.{length-map}
use Rattle.luflow.specs.declared.data.Datum.{Datum}
use Rattle.luflow.specs.declared.data.Status.{Status}
use Rattle.luflow.specs.declared.data.Status.TheVariants.{Absent, Present}
use Rattle.luflow.specs.declared.form.Clock.{Clock}
use Rattle.luflow.specs.declared.form.Clock.TheVariants.{Base, On}
use Rattle.luflow.specs.declared.form.Outcome.{Outcome}
use Rattle.luflow.specs.Program.{InputsView, flow_at, form_reads, clock_reads}
use Rattle.luflow.specs.Streams.{Mark, Known, Broken, Streams, is_broken, is_value, truth_in, clock_at}
use Rattle.luflow.specs.Values.{value_at, under}
use Rattle.luflow.specs.Solution.{clock_of_flow}
use Rattle.luflow.proofs.Solutions.{some_at, place_of, place_in, all_right}
use Rattle.luworld.specs.Needs.{sites_of, home}
use Rattle.luworld.specs.Systems.{done, put_count, taken_count}
use Rattle.luworld.specs.OutlineLaws.{PassedWhole}
use Rattle.luworld.specs.Jobs.{JobView, IsJob, streams_of, system_of, script, link_list, carried, receiver_of, HasNoStop, outline, is_open, NoFault, outputs_of}
use Rattle.luworld.proofs.Ended.{ended_sound}
use Rattle.luworld.proofs.PassedWhole.{passed_whole}
use Rattle.luworld.proofs.Outlines.{says_there, broken_is, is_outline, no_break, list_long}
use Rattle.lusite.specs.Sites.{SiteView}
use Rattle.lusite.specs.Logs.{IsOutput}
use Rattle.luworld.specs.WorldViews.{IsBegun, IsWhole, AreAllPassed, IsCollected, AllEnded}
use Rattle.lusite.proofs.Machine.{there}
use Rattle.luweave.specs.declared.link_queue.LinkQueue.{LinkQueue}
use Rattle.luweave.specs.Worlds.{IsWorld, IsDone, IsReportedAtSome, OneReports, NoneReports, dones_of}
use Rattle.luweave.proofs.Worlds.{done_at}

truth_known : (d : Datum) (m : Mark) → is_broken m ≡ false → (b : Bool) × (truth_in d m ≡ Some b)
truth_known d Broken e = absurd (false≢true (sym e))
truth_known d (Known Absent) e = (false, refl)
truth_known d (Known (Present x)) e = (is_value d x, refl)

clock_known : (inputs : InputsView) (σ : Streams) (clock : Clock) (t : ℕ) → All (λ r. is_broken (σ r t) ≡ false) (clock_reads clock) → (b : Bool) × (clock_at inputs σ clock t ≡ Some b)
clock_known inputs σ Base t h = (nat_lt t inputs.instants, refl)
clock_known inputs σ (On c d) t h = truth_known d (σ c t) (All-get_or (λ r. is_broken (σ r t) ≡ false) (c ∷ []) 0 c (omega arith) h)

sound_under : (b : Bool) (k : Option Bool) (v : Outcome) (m : Mark) → k ≡ Some b → m ≡ under k v → (b ≡ true → is_broken m ≡ false) → is_broken m ≡ false
sound_under true k v m ek em h = h refl
sound_under false k v m ek em h = ap is_broken (em ∙ ap (λ x. under x v) ek)

module _ (job : JobView) (ok : IsJob job) (dones : List ℕ) (all : AllEnded job dones) where
  -- a flow whose clock is true isn't broken, since its site has ended
  shown_sound : (p t : ℕ) → p < length job.plan.flat.order → t < job.inputs.instants → clock_of_flow job.inputs (streams_of job) (flow_at job.plan.flat (slice_index job.plan.flat.order p)) t ≡ Some true → is_broken (streams_of job (slice_index job.plan.flat.order p) t) ≡ false
  shown_sound p t lp lt open' =
      let i = slice_index job.plan.flat.order p in
      let h = home job.plan i in
      let e = ended_sound (outline job (streams_of job)) dones h (all h (ok.is_plan.homes i)) p i t (slice_get-get_or job.plan.flat.order p 0 lp) lt (ok.is_plan.stands_home i (there job 0 ok p lp).2) (ap is_open open') in
      sym (broken_is job ok i t (there job 0 ok p lp).2 lt) ∙ e

  sound_below : (n p t : ℕ) → p < n → p < length job.plan.flat.order → t < job.inputs.instants → is_broken (streams_of job (slice_index job.plan.flat.order p) t) ≡ false
  sound_below zero p t l lp lt = absurd (omega arith)
  sound_below (suc n) p t l lp lt =
      let i = slice_index job.plan.flat.order p in
      let f = there job 0 ok p lp in
      let s = says_there job ok i t f.2 lt in
      let first = all_right (λ r. Contains (take p job.plan.flat.order) r) (form_reads s.0.form) (clock_reads s.0.clock) (ok.is_plan.ordered.reads_first p s.0 lp s.1) in
      let sound : All (λ r. is_broken (streams_of job r t) ≡ false) (clock_reads s.0.clock) = λ k d lk.
      let w = place_of job.plan.flat.order p (get_or (clock_reads s.0.clock) k d) (first k d lk) in
      subst (λ (r : ℕ). is_broken (streams_of job r t) ≡ false) w.3 (sound_below n w.0 t (let a = w.1 in omega (arith, a, l)) w.2 lt) in
      let b = clock_known job.inputs (streams_of job) s.0.clock t sound in
      let k = ap (λ o. clock_of_flow job.inputs (streams_of job) o t) s.1 ∙ b.1 in
      sound_under b.0 (clock_of_flow job.inputs (streams_of job) (flow_at job.plan.flat i) t) (value_at job.inputs (streams_of job) s.0.clock s.0.form t) (streams_of job i t) k s.2 (λ e. shown_sound p t lp lt (k ∙ ap Some e))

  pub no_fault : NoFault job
  no_fault i t li lt =
      let w = place_in job.plan.flat.order i (ok.is_plan.ordered.all_flows i li) in
      subst (λ (r : ℕ). is_broken (streams_of job r t) ≡ false) w.2 (sound_below (suc w.0) w.0 t (omega arith) w.1 lt)

  passed : (l : ℕ) → l < length job.plan.links → PassedWhole (outline job (streams_of job)) dones l
  passed l lt = passed_whole (outline job (streams_of job)) (is_outline job ok) (no_break job ok no_fault) dones l lt

  -- a link's list was put and taken whole
  pub all_put : (l : ℕ) → l < length job.plan.links → put_count (system_of job) dones l ≡ length (link_list job (streams_of job) l)
  all_put l lt = (passed l lt).put (all (home job.plan (carried job.plan l)) (ok.is_plan.homes (carried job.plan l))) ∙ list_long job ok l lt

  pub all_taken : (l : ℕ) → l < length job.plan.links → taken_count (system_of job) dones l ≡ length (link_list job (streams_of job) l)
  all_taken l lt = (passed l lt).taken (all (receiver_of job.plan l) (ok.is_plan.receivers l)) ∙ list_long job ok l lt

module _ (job : JobView) (sites : List SiteView) (link_queues : List LinkQueue) (capacity : ℕ) (w : IsWorld job sites link_queues capacity) where
  sites_len : length sites ≡ sites_of job.plan
  sites_len = sym (length-map sites (λ (v : SiteView). v.done)) ∙ w.good.long

  pub done_all : ((s : ℕ) (v : SiteView) → slice_get sites s ≡ Some v → IsDone v) → AllEnded job (dones_of sites)
  done_all h s ls =
      let v = some_at sites s (omega (arith, ls, sites_len)) in
      let e = w.sites_are s v.0 v.1 in
      let d = subst (λ (j : JobView). (v.0.done ≡ length (script j (streams_of j) s)) × HasNoStop j s) e.0 (subst (λ (n : ℕ). (v.0.done ≡ length (script v.0.job (streams_of v.0.job) n)) × HasNoStop v.0.job n) e.1 (h s v.0 v.1)) in
      record { whole = done_at sites s v.0 v.1 ∙ d.0; no_stop = d.1 }

  pub all_done : AllEnded job (dones_of sites) → (s : ℕ) (v : SiteView) → slice_get sites s ≡ Some v → IsDone v
  all_done all s v at =
      let e = w.sites_are s v at in
      let x = all s (slice_in s v at) in
      subst (λ (n : ℕ). (v.done ≡ length (script v.job (streams_of v.job) n)) × HasNoStop v.job n) (sym e.1) (subst (λ (j : JobView). (v.done ≡ length (script j (streams_of j) s)) × HasNoStop j s) (sym e.0) (sym (done_at sites s v at) ∙ x.whole, x.no_stop))
    where
      slice_in : (s : ℕ) (v : SiteView) → slice_get sites s ≡ Some v → s < sites_of job.plan
      slice_in s v at = let l = slice_get_within sites s v at in omega (arith, l, sites_len)

  -- what one of the sites reports is what the output's home reports
  collected_at : (k s i : ℕ) (xs : List Status) (v : SiteView) → slice_get sites s ≡ Some v → IsOutput v.job v.site v.done k xs → slice_get (outputs_of job.plan) k ≡ Some i → home job.plan i ≡ s → IsBegun job i xs × AreAllPassed job (home job.plan i) (done (dones_of sites) (home job.plan i)) i xs × (AllEnded job (dones_of sites) → IsWhole job i xs)
  collected_at k s i xs v at reported out at_home =
      let e = w.sites_are s v at in
      let reported' = subst (λ (j : JobView). IsOutput j s v.done k xs) e.0 (subst (λ (n : ℕ). IsOutput v.job n v.done k xs) e.1 reported) in
      let t = reported'.reported i out at_home in
      let ls : s < sites_of job.plan = let l = slice_get_within sites s v at in omega (arith, l, sites_len) in
      let passed = subst (λ (h : ℕ). AreAllPassed job h (done (dones_of sites) h) i xs) (sym at_home) (subst (λ (n : ℕ). AreAllPassed job s n i xs) (sym (done_at sites s v at)) t.passed) in
      (t.begun, passed, λ all. let x = all s ls in t.whole (sym (done_at sites s v at) ∙ x.whole) x.no_stop)

  not_empty : (xs : List Status) → 0 < length xs → xs ≡ [] → ⊥
  not_empty xs l e = let n = ap length e in omega (arith, l, n)

  pub collected : (k : ℕ) (xs : List Status) → IsReportedAtSome sites k xs → IsCollected job (dones_of sites) k xs
  collected k xs (OneReports s ls some tells) i out =
      let v = some_at sites s ls in
      let e = w.sites_are s v.0 v.1 in
      let reported : IsOutput job s v.0.done k xs = subst (λ (j : JobView). IsOutput j s v.0.done k xs) e.0 (subst (λ (n : ℕ). IsOutput v.0.job n v.0.done k xs) e.1 (tells v.0 v.1)) in
      elim (cases_eq (home job.plan i) s) [
        | inl at_home ↦ collected_at k s i xs v.0 v.1 (tells v.0 v.1) out at_home
        | inr away ↦ absurd (not_empty xs some (reported.elsewhere i out away))
      ]
  collected k xs (NoneReports empty tells) i out =
      let h = home job.plan i in
      let lh : h < length sites = let a = w.is_job.is_plan.homes i in omega (arith, a, sites_len) in
      let v = some_at sites h lh in
      collected_at k h i xs v.0 v.1 (subst (λ (ys : List Status). IsOutput v.0.job v.0.site v.0.done k ys) (sym empty) (tells h lh v.0 v.1)) out refl

  -- of what is no output nothing is reported
  pub none_beyond : (k : ℕ) (xs : List Status) → IsReportedAtSome sites k xs → slice_get (outputs_of job.plan) k ≡ None → xs ≡ []
  none_beyond k xs (OneReports s ls some tells) out =
      let v = some_at sites s ls in
      let e = w.sites_are s v.0 v.1 in
      let reported : IsOutput job s v.0.done k xs = subst (λ (j : JobView). IsOutput j s v.0.done k xs) e.0 (subst (λ (n : ℕ). IsOutput v.0.job n v.0.done k xs) e.1 (tells v.0 v.1)) in
      reported.beyond out
  none_beyond k xs (NoneReports empty tells) out = empty
