-- Where no site's script holds a stop no flow breaks.
use Rattle.std.proofs.Common.{◌≡◌, ℕ, zero, suc, ◌+◌, ◌<◌, Bool, true, false, [], ◌∷◌, length, take, get_or, replicate, Option, Some, refl, sym, ap, ◌∙◌, subst, arith, nat_lt}
use Rattle.std.specs.Prelude.{slice_index, All, Contains}
use Rattle.std.proofs.lemmas.List.Elements.{All-get_or}
use Rattle.std.proofs.lemmas.List.{get_or-replicate}
use Rattle.std.proofs.lemmas.Option.{slice_get-get_or}
use Rattle.std.proofs.lemmas.Bool.{false≢true}
use Rattle.luflow.specs.declared.data.Datum.{Datum}
use Rattle.luflow.specs.declared.data.Status.TheVariants.{Absent, Present}
use Rattle.luflow.specs.declared.form.Clock.{Clock}
use Rattle.luflow.specs.declared.form.Clock.TheVariants.{Base, On}
use Rattle.luflow.specs.declared.form.Outcome.{Outcome}
use Rattle.luflow.specs.Program.{InputsView, flow_at, form_reads, clock_reads}
use Rattle.luflow.specs.Streams.{Mark, Known, Broken, Streams, is_broken, is_value, truth_in, clock_at}
use Rattle.luflow.specs.Values.{value_at, under}
use Rattle.luflow.specs.Solution.{clock_of_flow}
use Rattle.luflow.proofs.Solutions.{place_of, place_in, all_right}
use Rattle.luworld.specs.Needs.{sites_of, home}
use Rattle.luworld.specs.Outline.{HasEnded}
use Rattle.luworld.specs.Jobs.{JobView, IsJob, streams_of, script, HasNoStop, outline, is_open, NoFault}
use Rattle.luworld.proofs.Ended.{ended_sound}
use Rattle.luworld.proofs.Outlines.{says_there, broken_is}
use Rattle.lusite.proofs.Machine.{there}

truth_known : (d : Datum) (m : Mark) → is_broken m ≡ false → (b : Bool) × (truth_in d m ≡ Some b)
truth_known d Broken e = absurd (false≢true (sym e))
truth_known d (Known Absent) e = (false, refl)
truth_known d (Known (Present x)) e = (is_value d x, refl)

clock_known : (inputs : InputsView) (σ : Streams) (clock : Clock) (t : ℕ) → All (λ r. is_broken (σ r t) ≡ false) (clock_reads clock) → (b : Bool) × (clock_at inputs σ clock t ≡ Some b)
clock_known inputs σ Base t h = (nat_lt t inputs.instants, refl)
clock_known inputs σ (On c d) t h = truth_known d (σ c t) (All-get_or (λ r. is_broken (σ r t) ≡ false) (c ∷ []) 0 c (omega arith) h)

sound_under : (b : Bool) (k : Option Bool) (v : Outcome) (m : Mark) → k ≡ Some b → m ≡ under k v → (b ≡ true → is_broken m ≡ false) → is_broken m ≡ false
sound_under true k v m ek em h = h refl
sound_under false k v m ek em h = ap is_broken (em ∙ ap (λ x. under x v) ek)

module _ (job : JobView) (ok : IsJob job) (free : (s : ℕ) → s < sites_of job.plan → HasNoStop job s) where
  -- a flow whose clock is true isn't broken, since its site has ended
  shown_sound : (p t : ℕ) → p < length job.plan.flat.order → t < job.inputs.instants → clock_of_flow job.inputs (streams_of job) (flow_at job.plan.flat (slice_index job.plan.flat.order p)) t ≡ Some true → is_broken (streams_of job (slice_index job.plan.flat.order p) t) ≡ false
  shown_sound p t lp lt open' =
      let i = slice_index job.plan.flat.order p in
      let h = home job.plan i in
      let world = replicate (h + 1) (length (script job (streams_of job) h)) in
      let ended : HasEnded (outline job (streams_of job)) world h = record { whole = get_or-replicate (h + 1) h (length (script job (streams_of job) h)) 0 (omega arith); no_stop = free h (ok.is_plan.homes i) } in
      let e = ended_sound (outline job (streams_of job)) world h ended p i t (slice_get-get_or job.plan.flat.order p 0 lp) lt (ok.is_plan.stands_home i (there job 0 ok p lp).2) (ap is_open open') in
      sym (broken_is job ok i t (there job 0 ok p lp).2 lt) ∙ e

  sound_below : (n p t : ℕ) → p < n → p < length job.plan.flat.order → t < job.inputs.instants → is_broken (streams_of job (slice_index job.plan.flat.order p) t) ≡ false
  sound_below zero p t l lp lt = absurd (omega arith)
  sound_below (suc n) p t l lp lt =
      let i = slice_index job.plan.flat.order p in
      let f = there job 0 ok p lp in
      let s = says_there job ok i t f.2 lt in
      let first = all_right (λ r. Contains (take p job.plan.flat.order) r) (form_reads s.0.form) (clock_reads s.0.clock) (ok.is_plan.ordered.reads_first p s.0 lp s.1) in
      let sound : All (λ r. is_broken (streams_of job r t) ≡ false) (clock_reads s.0.clock) = λ k d lk.
      let w = place_of job.plan.flat.order p (get_or (clock_reads s.0.clock) k d) (first k d lk) in
      subst (λ (r : ℕ). is_broken (streams_of job r t) ≡ false) w.3 (sound_below n w.0 t (let a = w.1 in omega (arith, a, l)) w.2 lt) in
      let b = clock_known job.inputs (streams_of job) s.0.clock t sound in
      let k = ap (λ o. clock_of_flow job.inputs (streams_of job) o t) s.1 ∙ b.1 in
      sound_under b.0 (clock_of_flow job.inputs (streams_of job) (flow_at job.plan.flat i) t) (value_at job.inputs (streams_of job) s.0.clock s.0.form t) (streams_of job i t) k s.2 (λ e. shown_sound p t lp lt (k ∙ ap Some e))

  pub no_fault : NoFault job
  no_fault i t li lt =
      let w = place_in job.plan.flat.order i (ok.is_plan.ordered.all_flows i li) in
      subst (λ (r : ℕ). is_broken (streams_of job r t) ≡ false) w.2 (sound_below (suc w.0) w.0 t (omega arith) w.1 lt)
